use Rattle.std.proofs.Common.{◌∙◌, ap, length, arith}
use Rattle.std.proofs.lemmas.List.{get_or_read}
use Rattle.pattern_automata.specs.Cuts.{begin_of}
use Rattle.pattern_automata.proofs.Cutting.{part-is, part-within, within-ends}
use Rattle.pattern_automata.proofs.states.Closed.get.Goals as goal

pub begin_of-from-requires : goal.begin_of-from-requires
begin_of-from-requires c =
    let size = within-ends c.self.inside.ends.items c.self.inside.lists c.args.self.now c.self.view_is in
    omega (arith, c.requires, size, ap length c.as_slice.ensures.value)

pub index-to-requires : goal.index-to-requires
index-to-requires c =
    let size = within-ends c.self.inside.ends.items c.self.inside.lists c.args.self.now c.self.view_is in
    omega (arith, c.requires, size)

pub invariant_of-result : goal.invariant_of-result
invariant_of-result c =
    let size = within-ends c.self.inside.ends.items c.self.inside.lists c.args.self.now c.self.view_is in
    let begins = c.begin_of-from.ensures ∙ ap (λ es. begin_of 0 es c.args.i) c.as_slice.ensures.value in
    let ends_at = get_or_read c.self.inside.ends.items c.args.i c.index-to.result.now (omega (arith, c.requires, size)) c.index-to.ensures 0 in
    let w = part-within c.self.inside.ends.items (length c.self.inside.lists) c.args.i c.begin_of-from.result c.index-to.result.now c.self.invariant (omega (arith, c.requires, size)) begins ends_at in
    (w.0, w.1, omega arith)

pub returns : goal.returns
returns c =
    let size = within-ends c.self.inside.ends.items c.self.inside.lists c.args.self.now c.self.view_is in
    let begins = c.begin_of-from.ensures ∙ ap (λ es. begin_of 0 es c.args.i) c.as_slice.ensures.value in
    let ends_at = get_or_read c.self.inside.ends.items c.args.i c.index-to.result.now (omega (arith, c.requires, size)) c.index-to.ensures 0 in
    part-is c.self.inside.ends.items c.self.inside.lists c.args.self.now c.args.i c.begin_of-from.result c.index-to.result.now c.self.view_is (omega (arith, c.requires, size)) begins ends_at
