use Rattle.std.proofs.Common.{ℕ, List, sym, subst}
use Rattle.std.proofs.lemmas.List.{take_more}
use Rattle.search_parts.specs.Needs.{AreAnswersTo}
use Rattle.search_parts.proofs.leaves.answers_to.Goals as goal

pub tests-preserved : goal.tests-preserved
tests-preserved c =
    subst (λ (l : List ℕ). AreAnswersTo l c.args.path.now c.add_answer.new.answers) (sym (take_more c.args.core.now c.tests.test-index 0 c.tests-test.true)) (c.in_ok-add_answer.ensures _ c.tests.invariant)
