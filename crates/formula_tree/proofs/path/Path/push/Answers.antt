use Rattle.formula_tree.proofs.AnswerLists.{by_test-push, by_test-same}
use Rattle.formula_tree.proofs.path.Path.push.Goals as goal

pub invariant_of-self-2 : goal.invariant_of-self-2
invariant_of-self-2 c =
    let kept = by_test-same c.self.inside.pairs.items c.self.inside.by_test.items c.fill_to.new.items.items c.self.invariant c.in_ok-fill_to.ensures.same in
    rw c.in_ok-push.ensures.items (by_test-push c.self.inside.pairs.items c.fill_to.new.items.items c.args.test c.args.answer kept (rw (← c.self.view_is) at c.requires) c.in_ok-fill_to.ensures.room)
