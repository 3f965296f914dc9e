use Rattle.std.proofs.Common.{◌∙◌, ap, take, length, arith}
use Rattle.pattern_automata.specs.Cuts.{begin_of}
use Rattle.pattern_automata.proofs.Cutting.{after-cut, within-ends}
use Rattle.pattern_automata.proofs.states.PlaceLists.truncate.Goals as goal

pub begin_of-end-requires : goal.begin_of-end-requires
begin_of-end-requires c =
    let size = within-ends c.self.inside.ends.items c.self.inside.places.items c.args.self.now c.self.view_is in
    omega (arith, c.requires, size, ap length c.as_slice.ensures.value)

pub invariant_of-self : goal.invariant_of-self
invariant_of-self c =
    let size = within-ends c.self.inside.ends.items c.self.inside.places.items c.args.self.now c.self.view_is in
    let begins = c.begin_of-end.ensures ∙ ap (λ es. begin_of 0 es c.args.count) c.as_slice.ensures.value in
    (after-cut c.self.inside.ends.items c.truncate.new.self.items c.self.inside.places.items c.truncate-2.new.self.items c.args.count c.begin_of-end.result c.self.invariant
    (omega (arith, c.requires, size)) begins c.truncate.ensures.items c.truncate-2.ensures.items).0

pub returns : goal.returns
returns c =
    let size = within-ends c.self.inside.ends.items c.self.inside.places.items c.args.self.now c.self.view_is in
    let begins = c.begin_of-end.ensures ∙ ap (λ es. begin_of 0 es c.args.count) c.as_slice.ensures.value in
    (after-cut c.self.inside.ends.items c.truncate.new.self.items c.self.inside.places.items c.truncate-2.new.self.items c.args.count c.begin_of-end.result c.self.invariant
    (omega (arith, c.requires, size)) begins c.truncate.ensures.items c.truncate-2.ensures.items).1
    ∙ ap (take c.args.count) c.self.view_is
