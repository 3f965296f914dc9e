-- What a check is of, and what a walk through a part of a refutation answers.
use Rattle.std.specs.Prelude.{◌≡◌, ◌<◌, ◌+◌, ◌-◌, ◌^◌, ℕ, min, length, All, None}
use Rattle.cnf_clauses.specs.Numbering.{clauses_of}
use Rattle.formula_tree.specs.Answers.{Answers, answer_of}
use Rattle.formula_tree.specs.Trees.{tree_of}
use Rattle.policy_compile.specs.declared.outcome.Query.{Query}
use Rattle.policy_model.specs.declared.schema.Schema.{Schema}
use Rattle.policy_model.specs.Soundness.{SchemaIsSound, TestSuits}
use Rattle.refute_check.specs.declared.accepted.AcceptedCores.{AcceptedCores}
use Rattle.refute_check.specs.declared.verdict.Checking.{Checking}
use Rattle.refute_check.specs.declared.verdict.Walked.{Walked}
use Rattle.refute_check.specs.declared.verdict.Walked.TheVariants.{Closed, Failed}
use Rattle.refute_check.specs.Accepted.{AreAcceptedCores}
use Rattle.refute_check.specs.Closing.{Before, Closes, FailsAt, IsLabel, after_part, at_first}
use Rattle.refute_check.specs.Proofs.{Proof, label, size}

-- the schema is sound, the tests suit it and are numbered by 32 bits, and the clauses are the tree's
pub record IsCheckable (c : Checking) : Type 0 where
  pub sound : SchemaIsSound c.schema.now
  pub suit : All (TestSuits c.schema.now) c.query.now.tests
  pub count : length c.query.now.tests < 2 ^ 32
  pub clauses : c.clauses ≡ clauses_of (length c.query.now.tests) (tree_of c.query.now.formula.value)

-- each of the cores is accepted by what is checked
abbrev pub KnowsCores : Checking → AcceptedCores → Type 0
KnowsCores c cores = AreAcceptedCores c.schema.now c.query.now.tests cores

-- a number as 32 bits count it, up to the greatest
abbrev pub capped_count : ℕ → ℕ
capped_count n = min n (2 ^ 32 - 1)

-- The part closes, has so many nodes, and leaves these labels before what follows it; or the node of this number is the first
-- that fails.
abbrev pub IsWalked : Schema → Query → Before → Proof → Answers → Before → Walked → Type 0
IsWalked schema q before p path after (Closed nodes) =
    Closes schema q.tests (tree_of q.formula.value) before p path × (nodes ≡ capped_count (size p)) × (after ≡ after_part before p)
IsWalked schema q before p path after (Failed node) =
    (k : ℕ) × FailsAt schema q.tests (tree_of q.formula.value) before p path k × (node ≡ capped_count k)

-- the walk through a label whose own rule holds, under whichever path
abbrev pub IsLabelWalked : Schema → Query → Before → ℕ → Answers → Proof → Before → Walked → Type 0
IsLabelWalked schema q before n answers p after walked = (path : Answers) → IsLabel before n answers path →
    IsWalked schema q before (label n answers p) path after walked

-- the walk through a whole refutation
abbrev pub IsWholeWalk : Schema → Query → Proof → Answers → Walked → Type 0
IsWholeWalk schema q p path walked = (after : Before) × IsWalked schema q at_first p path after walked

-- the test is one of the query's, and the path leaves it open
abbrev pub IsOpenTest : Query → ℕ → Answers → Type 0
IsOpenTest q n path = (n < length q.tests) × (answer_of path n ≡ None)

-- what the walk of a part says of the node above it, which has so many nodes before the part
abbrev pub raised_walk : Walked → ℕ → Walked
raised_walk (Closed nodes) before = Closed (capped_count (nodes + before + 1))
raised_walk (Failed node) before = Failed (capped_count (node + before + 1))
