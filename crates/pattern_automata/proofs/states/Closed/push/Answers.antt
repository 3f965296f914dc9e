use Rattle.std.proofs.Common.{◌∙◌, ◌++◌, ◌∷◌, [], ap}
use Rattle.pattern_automata.proofs.Cutting.{after-push}
use Rattle.pattern_automata.proofs.states.Closed.push.Goals as goal

pub invariant_of-self-in-Ok : goal.invariant_of-self-in-Ok
invariant_of-self-in-Ok c =
    (after-push c.self.inside.ends.items c.push.new.self.items c.self.inside.lists c.add_state.new.lists c.args.state.now c.len-end.result c.self.invariant
    c.in_ok-add_state.ensures.ok c.len-end.ensures c.in-Ok.ensures.items).0

pub returns-in-Ok-clause-ok : goal.returns-in-Ok-clause-ok
returns-in-Ok-clause-ok c =
    (after-push c.self.inside.ends.items c.push.new.self.items c.self.inside.lists c.add_state.new.lists c.args.state.now c.len-end.result c.self.invariant
    c.in_ok-add_state.ensures.ok c.len-end.ensures c.in-Ok.ensures.items).1
    ∙ ap (λ v. v ++ c.args.state.now ∷ []) c.self.view_is
