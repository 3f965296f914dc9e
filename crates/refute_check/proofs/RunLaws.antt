-- The lemmas on the two runs of a query that crates above cite.
use Rattle.std.proofs.Common.{◌≡◌, ℕ, List, Bool, false}
use Rattle.formula_tree.specs.Answers.{Answers}
use Rattle.formula_tree.specs.Runs.{Run}
use Rattle.formula_tree.specs.Trees.{Tree}
use Rattle.formula_tree.specs.Values.{value}
use Rattle.formula_tree.specs.declared.value.Three.TheVariants.{No, Yes}
use Rattle.policy_model.specs.declared.request.Request.{Request}
use Rattle.policy_model.specs.declared.schema.Schema.{Schema}
use Rattle.policy_model.specs.declared.test.Test.{Test}
use Rattle.slot_theory.specs.Possible.{AnswersPath, IsPossible, PathInRange}
use Rattle.refute_check.specs.Laws.{MakesYes, NoneMeets, TreeInRange}
use Rattle.refute_check.specs.Propagated.{MeetsConflict, PropagatedRun}
use Rattle.refute_check.proofs.Ending as ends
use Rattle.refute_check.proofs.Meeting as meetings

-- a request that answers a path under which the tree is yes makes it yes
pub makes-yes : (tests : List Test) (tree : Tree) (path : Answers) (q : Request) → PathInRange tests path → AnswersPath tests path q → value path tree ≡ Yes → MakesYes tests tree q
makes-yes = meetings.makes-yes

-- none answers a path under which the tree is no and makes it yes
pub unmet-by-value : (schema : Schema) (tests : List Test) (tree : Tree) (path : Answers) → PathInRange tests path → value path tree ≡ No → NoneMeets schema tests tree path
unmet-by-value = ends.unmet-by-value

-- nor a path that no valid request can answer
pub unmet-by-path : (schema : Schema) (tests : List Test) (tree : Tree) (path : Answers) → ¬ IsPossible schema tests path → NoneMeets schema tests tree path
unmet-by-path = ends.unmet-by-path

-- nor one from which unit propagation meets a conflict
pub unmet-by-clauses : (schema : Schema) (tests : List Test) (tree : Tree) → TreeInRange tests tree → (path : Answers) → PathInRange tests path → MeetsConflict tests tree path → NoneMeets schema tests tree path
unmet-by-clauses = ends.unmet-by-clauses

-- from such a path the plain run ends without a request
pub plain-ends : (schema : Schema) (tests : List Test) (tree : Tree) → TreeInRange tests tree → (p : Answers) (b : Bool) (n : ℕ) → PathInRange tests p → NoneMeets schema tests tree p → Run (IsPossible schema tests) tree p b n → b ≡ false
plain-ends = ends.plain-ends

-- and so does the propagated run
pub propagated-ends : (schema : Schema) (tests : List Test) (tree : Tree) → TreeInRange tests tree → (p : Answers) (b : Bool) (n : ℕ) → PathInRange tests p → NoneMeets schema tests tree p → PropagatedRun schema tests tree p b n → b ≡ false
propagated-ends = ends.propagated-ends
