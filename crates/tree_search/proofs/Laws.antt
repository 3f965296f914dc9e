-- The lemmas on requests and runs that crates above cite.
use Rattle.std.proofs.Common.{◌≡◌, List}
use Rattle.formula_tree.specs.Answers.{Answers}
use Rattle.formula_tree.specs.Trees.{Tree}
use Rattle.formula_tree.specs.Values.{value}
use Rattle.formula_tree.specs.declared.value.Three.TheVariants.{Yes}
use Rattle.policy_model.specs.declared.request.Request.{Request}
use Rattle.policy_model.specs.declared.test.Test.{Test}
use Rattle.slot_theory.specs.Possible.{AnswersPath, PathInRange}
use Rattle.refute_check.specs.Laws.{MakesYes}
use Rattle.refute_check.proofs.RunLaws as runs

-- a request that answers a path under which the tree is yes makes it yes
pub makes-yes : (tests : List Test) (tree : Tree) (path : Answers) (q : Request) → PathInRange tests path → AnswersPath tests path q → value path tree ≡ Yes → MakesYes tests tree q
makes-yes = runs.makes-yes
