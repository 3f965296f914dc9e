use Rattle.std.proofs.Common.{ℕ, List, IsSome, All, refl, subst}
use Rattle.std.proofs.lemmas.List.{take_all}
use Rattle.std.proofs.lemmas.List.Elements.{All-more}
use Rattle.formula_tree.specs.Answers.{answer_of}
use Rattle.search_parts.proofs.shortening.are_answered.Goals as goal

pub tests-preserved : goal.tests-preserved
tests-preserved c =
    All-more (λ n. IsSome (answer_of c.args.path.now n)) c.args.tests.now c.tests.test-index 0 c.tests-test.true c.tests.invariant (c.if-not-is_answered.ensures.0 refl)

pub returns : goal.returns
returns c = (
  λ yes. subst (λ (l : List ℕ). All (λ n. IsSome (answer_of c.args.path.now n)) l) (take_all c.tests.test-index c.args.tests.now c.tests-test.false) c.tests.invariant,
  λ all. refl,
)
