use Rattle.std.proofs.Common.{◌∙◌, Bool, List, None, Option, length, refl, ap, arith}
use Rattle.std.proofs.lemmas.List.{length_push}
use Rattle.tree_values.specs.Models.{answer_at}
use Rattle.tree_values.proofs.Lists.{grown}
use Rattle.tree_values.proofs.tree_values.empty_answers.Goals as goal

pub tests-init : goal.tests-init
tests-init c = (ap (λ (xs : List (Option Bool)). length xs) c.new-answers.ensures.items, λ n. ap (λ (xs : List (Option Bool)). answer_at xs n) c.new-answers.ensures.items)

pub tests-preserved : goal.tests-preserved
tests-preserved c = (
  omega (arith, ap (λ (xs : List (Option Bool)). length xs) c.in_ok-push.ensures.items, length_push c.tests.answers.items None, c.tests.invariant.0),
  λ n. grown c.tests.answers.items c.push.new.self.items None None c.in_ok-push.ensures.items refl n ∙ c.tests.invariant.1 n,
)
