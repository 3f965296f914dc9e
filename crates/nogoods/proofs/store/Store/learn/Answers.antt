use Rattle.std.proofs.Common.{◌∙◌, ◌++◌, ◌∷◌, [], ap, arith}
use Rattle.std.proofs.lemmas.Grind.{common_steps}
use Rattle.nogoods.proofs.Zipping.{lengths-push, pairs-more, close-more}
use Rattle.nogoods.proofs.store.Store.learn.Goals as goal

pub invariant_of-self-in-Ok : goal.invariant_of-self-in-Ok
invariant_of-self-in-Ok g c =
    let lists = c.self.inside.lists in
    let items = c.self.inside.values.items in
    (lengths-push lists c.push-2.new.self items c.push.new.self.items c.args.answers c.args.what c.in-Ok.ensures.ok c.in_ok-push.ensures.items c.self.invariant.0, close-more g.T.Closes.closes lists c.push-2.new.self items c.push.new.self.items c.args.answers c.args.what c.in-Ok.ensures.ok c.in_ok-push.ensures.items c.self.invariant.0 c.self.invariant.1 c.requires)

pub returns-in-Ok-clause-ok : goal.returns-in-Ok-clause-ok
returns-in-Ok-clause-ok g c =
    let lists = c.self.inside.lists in
    let items = c.self.inside.values.items in
    pairs-more lists c.push-2.new.self items c.push.new.self.items c.args.answers c.args.what c.in-Ok.ensures.ok c.in_ok-push.ensures.items c.self.invariant.0 ∙ ap (λ xs. xs ++ (c.args.answers, c.args.what.value) ∷ []) c.self.view_is

pub invariant_of-self-in-Err : goal.invariant_of-self-in-Err
invariant_of-self-in-Err g c = grind (arith, common_steps)

pub returns-in-Err-clause-err : goal.returns-in-Err-clause-err
returns-in-Err-clause-err g c = grind (arith, common_steps)
