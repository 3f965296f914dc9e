use Rattle.std.proofs.Common.{All, take}
use Rattle.formula_tree.specs.Answers.{Answers}
use Rattle.refute_check.specs.Accepted.{FollowsAnswer}
use Rattle.refute_check.specs.Labels.{IsAnswered}
use Rattle.refute_check.proofs.accepted.answers_for.Given as goal

abbrev pub invariant-tests : goal.invariant-tests
invariant-tests l = (other : Answers) → All (IsAnswered other) l.answers → All (FollowsAnswer l.path other) (take l.test-index l.tests)
