-- The lemmas on refutations that close that crates above cite.
use Rattle.std.proofs.Common.{ℕ, ◌<◌, List, length, Bool, All}
use Rattle.formula_tree.specs.Answers.{Answers}
use Rattle.formula_tree.specs.Runs.{path_with}
use Rattle.formula_tree.specs.Trees.{Tree}
use Rattle.policy_model.specs.declared.schema.Schema.{Schema}
use Rattle.policy_model.specs.declared.test.Test.{Test}
use Rattle.slot_theory.specs.Possible.{PathInRange}
use Rattle.refute_check.specs.Closing.{Before, Closes, FailsAt}
use Rattle.refute_check.specs.Laws.{ClosedPathsAreNo, ClosedQueriesAreNo}
use Rattle.refute_check.specs.Proofs.{Proof, size}
use Rattle.refute_check.proofs.Closed as closed
use Rattle.refute_check.proofs.Failing as failing
use Rattle.refute_check.proofs.Ranges as ranges

-- no valid request answers a path under which a refutation closes the query, and makes the query yes
pub paths_are_no : ClosedPathsAreNo
paths_are_no = closed.paths_are_no

-- no valid request makes a query yes that a refutation closes under the empty path
pub queries_are_no : ClosedQueriesAreNo
queries_are_no = closed.queries_are_no

-- the first node that fails is one of the refutation's
pub fails-within : (schema : Schema) (tests : List Test) (tree : Tree) (before : Before) (p : Proof) (path : Answers) (node : ℕ) → FailsAt schema tests tree before p path node → node < size p
fails-within = failing.fails-within

-- a refutation that closes fails at no node
pub fails-not-closes : (schema : Schema) (tests : List Test) (tree : Tree) (before : Before) (p : Proof) (path : Answers) (node : ℕ) → FailsAt schema tests tree before p path node → Closes schema tests tree before p path → ⊥
fails-not-closes = failing.fails-not-closes

-- a path with one more answer to a test in range answers tests in range
pub range_more : (tests : List Test) (path : Answers) (n : ℕ) (b : Bool) → PathInRange tests path → n < length tests → PathInRange tests (path_with path n b)
range_more = ranges.range_more

-- each test that a path in range answers is in range
pub all-in-range : (tests : List Test) (path : Answers) → PathInRange tests path → All (λ p. p.0 < length tests) path
all-in-range = ranges.all-in-range
