use Rattle.std.proofs.Common.{◌≡◌, ◌<◌, ◌≤◌, Some, true, false, length, arith, rules, ap, sym, ◌∙◌}
use Rattle.std.specs.Prelude.{slice_index}
use Rattle.strata.specs.Covers.{predicate_at}
use Rattle.strata.specs.declared.predicate.Predicate.{Predicate}
use Rattle.policy_emit.specs.Emitted.{is_slot_of}
use Rattle.policy_emit.proofs.Choosing.{else-taken, then-taken}
use Rattle.policy_emit.proofs.Dropping.{finding-long, number-within, part-end, part-step}
use Rattle.policy_emit.proofs.part.predicate_of.Goals as goal

pub dimension_at-stratum-requires : goal.dimension_at-stratum-requires
dimension_at-stratum-requires c = omega (arith, finding-long c.args.strata.now.dimensions c.args.finding.now c.requires, c.len-i-end.ensures)

pub predicate_at-requires : goal.predicate_at-requires
predicate_at-requires c = rw (c.as_slice.ensures) (number-within c.args.strata.now.dimensions c.args.finding.now c.requires c.dimensions.i _ c.dimension_at-stratum.ensures)

pub returns-then-is_slot_of : goal.returns-then-is_slot_of
returns-then-is_slot_of c =
    let d = c.dimension_at-stratum.result.now in
    let within : c.dimensions.i < length c.args.finding.now = omega (arith, c.len-i-end.ensures) in
    let chosen : is_slot_of c.args.part d.slot ≡ true = search rules in
    let number : c.predicate_at.result.now ≡ predicate_at d.predicates (slice_index c.args.finding.now c.dimensions.i) = search rules in
    let step = part-step c.args.part c.args.strata.now.dimensions c.args.finding.now c.dimensions.i d c.dimension_at-stratum.ensures within in
    sym (c.dimensions.invariant ∙ step ∙ then-taken _ _ _ chosen ∙ ap (λ (p : Predicate). Some p) (sym number))

pub dimensions-preserved : goal.dimensions-preserved
dimensions-preserved c =
    let d = c.dimension_at-stratum.result.now in
    let within : c.dimensions.i < length c.args.finding.now = omega (arith, c.len-i-end.ensures) in
    let other : is_slot_of c.args.part d.slot ≡ false = search rules in
    let step = part-step c.args.part c.args.strata.now.dimensions c.args.finding.now c.dimensions.i d c.dimension_at-stratum.ensures within in
    c.dimensions.invariant ∙ step ∙ else-taken _ _ _ other

pub returns : goal.returns
returns c =
    let past : length c.args.finding.now ≤ c.dimensions.i = omega (arith, c.len-i-end.ensures, c.dimensions-test.false) in
    sym (c.dimensions.invariant ∙ part-end c.args.part c.args.strata.now.dimensions c.args.finding.now c.dimensions.i past)
