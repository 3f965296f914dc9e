use Rattle.std.proofs.Common.{arith}
use Rattle.formula_tree.proofs.AnswerLists.{by_test-pop, by_test-room}
use Rattle.formula_tree.proofs.path.Path.pop.Goals as goal

pub index_mut-requires : goal.index_mut-requires
index_mut-requires c = omega (arith, by_test-room c.pop-last.new.self.items c.self.inside.by_test.items c.in-Some.test c.in-Some.field-0-1 (rw c.in-Some.ensures.items at c.self.invariant))

pub invariant_of-self : goal.invariant_of-self
invariant_of-self c = by_test-pop c.pop-last.new.self.items c.self.inside.by_test.items c.in-Some.test c.in-Some.field-0-1 (rw c.in-Some.ensures.items at c.self.invariant)
