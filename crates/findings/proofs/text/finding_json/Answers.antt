use Rattle.std.proofs.Common.{◌<◌, ap, arith, length, List, map, ◌∙◌}
use Rattle.serde_json.specs.Data.{Data, array, string}
use Rattle.serde_json.specs.View.{items_of}
use Rattle.serde_json.proofs.Views.{view-Array}
use Rattle.findings.proofs.Stepping.{finding-long, number-within, texts-all}
use Rattle.findings.proofs.Texts.{texts-more}
use Rattle.findings.proofs.text.finding_json.Goals as goal

pub dimension_at-requires : goal.dimension_at-requires
dimension_at-requires c = omega (arith, finding-long c.args.strata.now.dimensions c.args.finding.now c.requires)

pub number_json-requires : goal.number_json-requires
number_json-requires c =
    let own = number-within c.args.strata.now.dimensions c.args.finding.now c.requires c.dimensions.i _ c.dimension_at.ensures in
    omega (arith, own, c.predicate_number_at-number.ensures)

pub dimensions-preserved : goal.dimensions-preserved
dimensions-preserved c =
    let within : c.dimensions.i < length c.args.finding.now = omega arith in
    let number = c.predicate_number_at-number.ensures in
    texts-more c.args.strata.now.dimensions c.args.finding.now c.dimensions.i _ c.dimensions.texts.items c.push.new.self.items _ c.dimension_at.ensures within c.dimensions.invariant (rw number at c.in_ok-number_json.ensures) c.in_ok-push.ensures.items

pub returns : goal.returns
returns c =
    let all = texts-all c.args.strata.now.dimensions c.args.finding.now c.dimensions.i c.requires (omega arith) in
    view-Array c.dimensions.texts ∙ ap (λ (xs : List Data). array (items_of xs)) (c.dimensions.invariant ∙ ap (map string) all)
