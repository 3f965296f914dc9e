use Rattle.std.proofs.Common.{◌∙◌, ◌++◌, ◌∷◌, [], ap, arith}
use Rattle.pattern_automata.proofs.Cutting.{after-push}
use Rattle.pattern_automata.proofs.states.PlaceLists.push.Goals as goal

pub invariant_of-self-in-Ok : goal.invariant_of-self-in-Ok
invariant_of-self-in-Ok c =
    (after-push c.self.inside.ends.items c.push.new.self.items c.self.inside.places.items c.extend_from_slice.new.self.items c.args.places.now c.len-end.result c.self.invariant
    c.in_ok-extend_from_slice.ensures.items (omega (arith, c.len-end.ensures)) c.in-Ok.ensures.items).0

pub returns-in-Ok-clause-ok : goal.returns-in-Ok-clause-ok
returns-in-Ok-clause-ok c =
    (after-push c.self.inside.ends.items c.push.new.self.items c.self.inside.places.items c.extend_from_slice.new.self.items c.args.places.now c.len-end.result c.self.invariant
    c.in_ok-extend_from_slice.ensures.items (omega (arith, c.len-end.ensures)) c.in-Ok.ensures.items).1
    ∙ ap (λ v. v ++ c.args.places.now ∷ []) c.self.view_is
