use Rattle.std.proofs.Common.{◌∙◌, ◌-◌, ap, take, drop, length, arith}
use Rattle.std.proofs.lemmas.List.{get_or_read}
use Rattle.pattern_automata.specs.Cuts.{begin_of}
use Rattle.pattern_automata.proofs.Cutting.{part-is, part-within, within-ends}
use Rattle.pattern_automata.proofs.states.PlaceLists.get.Goals as goal

pub begin_of-from-requires : goal.begin_of-from-requires
begin_of-from-requires c =
    let size = within-ends c.self.inside.ends.items c.self.inside.places.items c.args.self.now c.self.view_is in
    omega (arith, c.requires, size, ap length c.as_slice.ensures.value)

pub index-to-requires : goal.index-to-requires
index-to-requires c =
    let size = within-ends c.self.inside.ends.items c.self.inside.places.items c.args.self.now c.self.view_is in
    omega (arith, c.requires, size)

pub part-requires-clause-rising : goal.part-requires-clause-rising
part-requires-clause-rising c =
    let size = within-ends c.self.inside.ends.items c.self.inside.places.items c.args.self.now c.self.view_is in
    let begins = c.begin_of-from.ensures ∙ ap (λ es. begin_of 0 es c.args.i) c.as_slice.ensures.value in
    let ends_at = get_or_read c.self.inside.ends.items c.args.i c.index-to.result.now (omega (arith, c.requires, size)) c.index-to.ensures 0 in
    (part-within c.self.inside.ends.items (length c.self.inside.places.items) c.args.i c.begin_of-from.result c.index-to.result.now c.self.invariant (omega (arith, c.requires, size)) begins ends_at).0

pub part-requires-clause-within : goal.part-requires-clause-within
part-requires-clause-within c =
    let size = within-ends c.self.inside.ends.items c.self.inside.places.items c.args.self.now c.self.view_is in
    let begins = c.begin_of-from.ensures ∙ ap (λ es. begin_of 0 es c.args.i) c.as_slice.ensures.value in
    let ends_at = get_or_read c.self.inside.ends.items c.args.i c.index-to.result.now (omega (arith, c.requires, size)) c.index-to.ensures 0 in
    let w = part-within c.self.inside.ends.items (length c.self.inside.places.items) c.args.i c.begin_of-from.result c.index-to.result.now c.self.invariant (omega (arith, c.requires, size)) begins ends_at in
    omega (arith, w.1, ap length c.as_slice-2.ensures.value)

pub returns : goal.returns
returns c =
    let size = within-ends c.self.inside.ends.items c.self.inside.places.items c.args.self.now c.self.view_is in
    let begins = c.begin_of-from.ensures ∙ ap (λ es. begin_of 0 es c.args.i) c.as_slice.ensures.value in
    let ends_at = get_or_read c.self.inside.ends.items c.args.i c.index-to.result.now (omega (arith, c.requires, size)) c.index-to.ensures 0 in
    c.part.ensures ∙ (ap (λ xs. take (c.index-to.result.now - c.begin_of-from.result) (drop c.begin_of-from.result xs)) c.as_slice-2.ensures.value
    ∙ part-is c.self.inside.ends.items c.self.inside.places.items c.args.self.now c.args.i c.begin_of-from.result c.index-to.result.now c.self.view_is (omega (arith, c.requires, size)) begins ends_at)
