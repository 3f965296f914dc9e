use Rattle.std.proofs.Common.{ℕ, List, All, subst}
use Rattle.std.proofs.lemmas.List.{take_all}
use Rattle.std.proofs.lemmas.List.Elements.{All-more}
use Rattle.refute_check.specs.Accepted.{FollowsAnswer}
use Rattle.refute_check.proofs.accepted.answers_for.Goals as goal

pub tests-preserved : goal.tests-preserved
tests-preserved c = λ other has.
    let (before, follows) = c.in_ok-note.ensures other has in
    All-more (FollowsAnswer c.args.path.now other) c.args.tests.now c.tests.test-index 0 c.tests-test.true (c.tests.invariant other before) follows

pub returns : goal.returns
returns c = λ other has.
    subst (λ (l : List ℕ). All (FollowsAnswer c.args.path.now other) l) (take_all c.tests.test-index c.args.tests.now c.tests-test.false) (c.tests.invariant other has)
