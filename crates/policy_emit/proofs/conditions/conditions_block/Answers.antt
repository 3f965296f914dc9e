use Rattle.std.proofs.Common.{◌≡◌, ◌<◌, ◌≤◌, ◌+◌, List, ◌++◌, All, fold, drop, length, arith, rules, ap, sym, subst, ◌∙◌}
use Rattle.std.specs.Prelude.{slice_index}
use Rattle.std.proofs.lemmas.List.Elements.{All-append, All-nil}
use Rattle.serde_json.specs.Data.{Members}
use Rattle.serde_json.specs.View.{members_view}
use Rattle.policy_model.specs.declared.operator.Condition.{Condition}
use Rattle.strata.specs.Covers.{predicate_at}
use Rattle.strata.specs.declared.predicate.Predicate.{Predicate}
use Rattle.policy_emit.specs.Emitted.{conditions_in, key_conditions}
use Rattle.policy_emit.specs.Kept.{ConditionIsKept}
use Rattle.policy_emit.specs.Written.{with_condition}
use Rattle.policy_emit.proofs.Dropping.{block-append, conditions-end, conditions-step, finding-long, number-within}
use Rattle.policy_emit.proofs.conditions.conditions_block.Goals as goal

pub dimension_at-stratum-requires : goal.dimension_at-stratum-requires
dimension_at-stratum-requires c = omega (arith, finding-long c.args.strata.now.dimensions c.args.finding.now c.requires, c.len-i-end.ensures)

pub predicate_at-predicate-requires : goal.predicate_at-predicate-requires
predicate_at-predicate-requires c = rw (c.as_slice.ensures) (number-within c.args.strata.now.dimensions c.args.finding.now c.requires c.dimensions.i _ c.dimension_at-stratum.ensures)

pub dimensions-preserved : goal.dimensions-preserved
dimensions-preserved c =
    let schema = c.args.schema.now in
    let ds = c.args.strata.now.dimensions in
    let f = c.args.finding.now in
    let i = c.dimensions.i in
    let d = c.dimension_at-stratum.result.now in
    let before = members_view c.dimensions.block.entries in
    let rest = conditions_in schema (drop (i + 1) ds) (drop (i + 1) f) in
    let own = key_conditions schema d.slot (predicate_at d.predicates (slice_index f i)) in
    let within : i < length f = omega (arith, c.len-i-end.ensures) in
    let number : c.predicate_at-predicate.result.now ≡ predicate_at d.predicates (slice_index f i) = search rules in
    let step : conditions_in schema (drop i ds) (drop i f) ≡ own ++ rest = conditions-step schema ds f i d c.dimension_at-stratum.ensures within in
    let added = c.in_ok-add_dimension.ensures.added ∙ ap (λ (p : Predicate). fold with_condition before (key_conditions schema d.slot p)) number in
    let kept : All ConditionIsKept own = subst (λ (p : Predicate). All ConditionIsKept (key_conditions schema d.slot p)) number c.in_ok-add_dimension.ensures.kept in (
      ap (λ (ms : Members). fold with_condition ms rest) added ∙ sym (block-append before own rest) ∙ ap (fold with_condition before) (sym step) ∙ c.dimensions.invariant.0,
      λ more. c.dimensions.invariant.1 (subst (λ (cs : List Condition). All ConditionIsKept cs) (sym step) (All-append ConditionIsKept own rest kept more)),
    )

pub returns-clause-block : goal.returns-clause-block
returns-clause-block c =
    let past : length c.args.finding.now ≤ c.dimensions.i = omega (arith, c.len-i-end.ensures, c.dimensions-test.false) in
    let end = conditions-end c.args.schema.now c.args.strata.now.dimensions c.args.finding.now c.dimensions.i past in
    sym (ap (fold with_condition (members_view c.dimensions.block.entries)) end) ∙ c.dimensions.invariant.0

pub returns-clause-kept : goal.returns-clause-kept
returns-clause-kept c =
    let past : length c.args.finding.now ≤ c.dimensions.i = omega (arith, c.len-i-end.ensures, c.dimensions-test.false) in
    let end = conditions-end c.args.schema.now c.args.strata.now.dimensions c.args.finding.now c.dimensions.i past in
    c.dimensions.invariant.1 (subst (λ (cs : List Condition). All ConditionIsKept cs) (sym end) (All-nil ConditionIsKept))
