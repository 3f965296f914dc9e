-- The rules of refutations at the program's own queries and refutations.
use Rattle.std.specs.Prelude.{ℕ, []}
use Rattle.formula_tree.specs.Answers.{Answers}
use Rattle.formula_tree.specs.Trees.{tree_of}
use Rattle.policy_compile.specs.declared.outcome.Query.{Query}
use Rattle.policy_compile.specs.Queries.{asked_tree}
use Rattle.policy_model.specs.declared.schema.Schema.{Schema}
use Rattle.refute_check.specs.declared.refutation.Refutation.{Refutation}
use Rattle.refute_check.specs.Closing.{Before, Closes, FailsAt, OwnRule, at_first}
use Rattle.refute_check.specs.Proofs.{Proof, proof_of}

-- the rule of the refutation's first node holds under the path, after what stands before
abbrev pub HoldsHere : Schema → Query → Before → Refutation → Answers → Type 0
HoldsHere schema q before r path = OwnRule schema q.tests (tree_of q.formula.value) before (proof_of r) path

-- the refutation closes the query under the path, after what stands before
abbrev pub ClosesAfter : Schema → Query → Before → Refutation → Answers → Type 0
ClosesAfter schema q before r path = Closes schema q.tests (tree_of q.formula.value) before (proof_of r) path

-- and with nothing before it
abbrev pub ClosesQuery : Schema → Query → Refutation → Answers → Type 0
ClosesQuery schema q r path = ClosesAfter schema q at_first r path

-- a refutation closes the query under no answers
abbrev pub ClosesAll : Schema → Query → Proof → Type 0
ClosesAll schema q proof = Closes schema q.tests (asked_tree q) at_first proof []

-- this node of it is the first that fails
abbrev pub FailsAll : Schema → Query → Proof → ℕ → Type 0
FailsAll schema q proof node = FailsAt schema q.tests (asked_tree q) at_first proof [] node
