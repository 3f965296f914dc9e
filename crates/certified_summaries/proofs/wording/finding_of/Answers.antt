use Rattle.std.proofs.Common.{◌∙◌, ℕ, List, Option, ap, option_map, subst, sym}
use Rattle.serde_json.specs.View.{view}
use Rattle.certified_summaries.specs.Reading.{IsFindingIn}
use Rattle.certified_summaries.proofs.Wordings.{none-json, none-values, none-written, other-text}
use Rattle.certified_summaries.proofs.wording.finding_of.Goals as goal

pub returns-in_default : goal.returns-in_default
returns-in_default c =
    none-json c.compact_texts_are_read_again.ensures c.args.strata.now.dimensions c.args.table.now c.args.text.now c.requires (sym c.in_ok-value.ensures ∙ ap (option_map view) c.in_default.is)

pub returns-in_default-2 : goal.returns-in_default-2
returns-in_default-2 c =
    none-values c.compact_texts_are_read_again.ensures c.args.strata.now.dimensions c.args.table.now c.args.text.now (view c.in-Some.value) c.values_in.result.now c.requires
    (sym c.in_ok-value.ensures ∙ ap (option_map view) c.in-Some.is) c.values_in.ensures (subst (λ (o : Option (List ℕ)). IsFindingIn c.args.strata.now.dimensions c.values_in.result.now o) c.in_default-2.is c.in_ok-finding.ensures)

pub returns : goal.returns
returns c =
    none-written c.compact_texts_are_read_again.ensures c.args.strata.now.dimensions c.args.table.now c.args.text.now (view c.in-Some.value) c.values_in.result.now c.in-Some-2.finding c.requires
    (sym c.in_ok-value.ensures ∙ ap (option_map view) c.in-Some.is) c.values_in.ensures (subst (λ (o : Option (List ℕ)). IsFindingIn c.args.strata.now.dimensions c.values_in.result.now o) c.in-Some-2.is c.in_ok-finding.ensures)
    (λ same. other-text c.as_bytes.result.now c.args.text.now c.if-eq.ensures (c.as_bytes.ensures.value ∙ c.in_ok-written.ensures ∙ same))
