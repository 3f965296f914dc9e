use Rattle.std.proofs.Common.{arith, subst}
use Rattle.std.proofs.lemmas.List.{take_all}
use Rattle.formula_tree.specs.Answers.{Answers}
use Rattle.tree_values.specs.Giving.{AreGiven}
use Rattle.tree_values.proofs.Giving.{each-next, each-none, given-none, given-then}
use Rattle.tree_values.proofs.tree_values.TreeValues.give.Goals as goal

pub answers-init : goal.answers-init
answers-init c = (given-none c.args.self.now c.args.path.now, each-none c.args.self.now c.args.path.now)

pub answers-preserved : goal.answers-preserved
answers-preserved c = (
  given-then c.args.self.now c.answers.self c.give_one.new.self c.args.path.now c.answers.invariant.0 c.give_one.ensures.given,
  each-next c.answers.self c.give_one.new.self c.args.path.now c.as_slice-test-items.result.now c.answers.test-index c.answers-test.true c.give_one.ensures.given c.give_one.ensures.at c.answers.invariant.1,
)

pub returns-clause-each : goal.returns-clause-each
returns-clause-each c =
    subst (λ (ps : Answers). AreGiven c.answers.self c.args.path.now ps) c.as_slice-test-items.ensures.value
    (subst (λ (ps : Answers). AreGiven c.answers.self c.args.path.now ps) (take_all c.answers.test-index c.as_slice-test-items.result.now (omega arith)) c.answers.invariant.1)
