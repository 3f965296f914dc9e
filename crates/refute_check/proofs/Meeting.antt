-- What a request that answers a path says of a tree, and that a path which values answer is possible.
use Rattle.std.proofs.Common.{◌≡◌, ◌↔◌, IsTrue, ℕ, List, [], Bool, true, false, MatchBool, refl, sym, subst}
use Rattle.std.proofs.lemmas.Option.{slice_get-get_or}
use Rattle.formula_tree.specs.Answers.{Answers, Completes}
use Rattle.formula_tree.specs.Trees.{Tree}
use Rattle.formula_tree.specs.Values.{value as tree_value}
use Rattle.formula_tree.specs.declared.value.Three.TheVariants.{Yes}
use Rattle.formula_tree.proofs.Laws.{says-yes}
use Rattle.policy_model.specs.declared.request.Request.{Request}
use Rattle.policy_model.specs.declared.test.Test.{Test}
use Rattle.policy_model.specs.declared.test.Test.TheVariants.{Action}
use Rattle.policy_model.specs.Tests.{TestHolds}
use Rattle.slot_theory.specs.Slots.{test_at}
use Rattle.slot_theory.specs.Possible.{AnswersPath, PathInRange}
use Rattle.slot_theory.proofs.Laws.{at-test}
use Rattle.refute_check.specs.Laws.{MakesYes}
use Rattle.refute_check.proofs.Deciding.{Decides-test, holds_on, test-decided}

-- ---- what a request says of a tree

same-answer : (a b : Bool) (A : Type 0) → MatchBool a A (¬ A) → MatchBool b A (¬ A) → a ≡ b
same-answer true true A h g = refl
same-answer true false A h g = absurd (g h)
same-answer false true A h g = absurd (h g)
same-answer false false A h g = refl

-- a request that answers a path which makes the tree yes makes it yes
pub makes-yes : (tests : List Test) (tree : Tree) (path : Answers) (q : Request) → PathInRange tests path → AnswersPath tests path q → tree_value path tree ≡ Yes → MakesYes tests tree q
makes-yes tests tree path q range says made =
    let total : ℕ → Bool = λ n. holds_on q (test_at tests n) in
    let completes : Completes total path =
    λ n b e.
    let t = test_at tests n in
    same-answer (total n) b (TestHolds q t) (test-decided q t) (says n b t e (slice_get-get_or tests n (Action []) (range n b e))) in (
      total,
      λ n t at. subst (λ (x : Test). IsTrue (holds_on q x) ↔ TestHolds q t) (sym (at-test tests n t at)) (Decides-test q t),
      says-yes path tree total completes made,
    )
