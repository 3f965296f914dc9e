-- When a refutation closes a query under a path, and which of its nodes fails first.
use Rattle.std.specs.Prelude.{◌≡◌, ◌<◌, ◌+◌, ℕ, List, [], ◌++◌, length, map, true, false, None, Any}
use Rattle.formula_tree.specs.Answers.{Answers, Contained, answer_of}
use Rattle.formula_tree.specs.Runs.{path_with}
use Rattle.formula_tree.specs.Trees.{Tree}
use Rattle.formula_tree.specs.Values.{value}
use Rattle.formula_tree.specs.declared.value.Three.TheVariants.{No}
use Rattle.cnf_clauses.specs.Numbering.{clauses_of}
use Rattle.cnf_clauses.specs.Replays.{Replays}
use Rattle.pattern_automata.specs.Closed.{rises_from}
use Rattle.policy_model.specs.declared.schema.Schema.{Schema}
use Rattle.policy_model.specs.declared.test.Test.{Test}
use Rattle.slot_theory.specs.Cores.{Accepts}
use Rattle.refute_check.specs.Proofs.{Proof, by_clauses, by_slot, by_value, ended_in, label, labels, reuse, size, split}

-- What stands before a node in reading order: how many labels, and those of them whose nodes have ended, each with its answers.
pub record Before : Type 0 where
  pub begun : ℕ
  pub ended : List (ℕ × Answers)

-- at the first node
abbrev pub at_first : Before
at_first = record { begun = 0; ended = [] }

-- after a part, and inside a label
abbrev pub after_part : Before → Proof → Before
after_part before p = record { begun = before.begun + labels p; ended = before.ended ++ ended_in p }

abbrev pub inside_label : Before → Before
inside_label before = record { begun = before.begun + 1; ended = before.ended }

-- the tests of the answers strictly rise
abbrev pub Rise : Answers → Type 0
Rise answers = rises_from 0 (map (λ a. a.0) answers) ≡ true

-- a label's number is the count of those before it; its answers rise, and the path contains them
pub record IsLabel (before : Before) (n : ℕ) (answers path : Answers) : Type 0 where
  pub next : n ≡ before.begun
  pub rise : Rise answers
  pub there : Contained answers path

-- a label of the number has ended, and the path contains its answers
abbrev pub IsReuse : Before → ℕ → Answers → Type 0
IsReuse before n path = Any (λ l. (l.0 ≡ n) × Contained l.1 path) before.ended

-- a node's own rule, what is below it aside: a split is on a test of the query that the path doesn't answer; the tree's value
-- is no; the core is accepted; the hints replay from the path; a label is the next one; what is reused has ended
abbrev pub OwnRule : Schema → List Test → Tree → Before → Proof → Answers → Type 0
OwnRule schema tests tree before (split n y z) path = (n < length tests) × (answer_of path n ≡ None)
OwnRule schema tests tree before by_value path = value path tree ≡ No
OwnRule schema tests tree before (by_slot core proof) path = Accepts schema tests path core proof
OwnRule schema tests tree before (by_clauses hints) path = Replays (clauses_of (length tests) tree) path hints
OwnRule schema tests tree before (label n answers p) path = IsLabel before n answers path
OwnRule schema tests tree before (reuse n) path = IsReuse before n path

-- the refutation closes the query under the path: a split where each side closes with its answer added, a label where its node
-- closes under its answers alone
abbrev pub Closes : Schema → List Test → Tree → Before → Proof → Answers → Type 0
Closes schema tests tree before (split n y z) path =
    OwnRule schema tests tree before (split n y z) path ×
    Closes schema tests tree before y (path_with path n true) ×
    Closes schema tests tree (after_part before y) z (path_with path n false)
Closes schema tests tree before (label n answers p) path =
    OwnRule schema tests tree before (label n answers p) path × Closes schema tests tree (inside_label before) p answers
Closes schema tests tree before by_value path = OwnRule schema tests tree before by_value path
Closes schema tests tree before (by_slot core proof) path = OwnRule schema tests tree before (by_slot core proof) path
Closes schema tests tree before (by_clauses hints) path = OwnRule schema tests tree before (by_clauses hints) path
Closes schema tests tree before (reuse n) path = OwnRule schema tests tree before (reuse n) path

-- the number of the first node in reading order, counted from 0, whose own rule fails
pub data FailsAt (schema : Schema) (tests : List Test) (tree : Tree) : Before → Proof → Answers → ℕ → Type 0 where
  here : {before : Before} {p : Proof} {path : Answers} → ¬ OwnRule schema tests tree before p path →
      FailsAt schema tests tree before p path 0
  in_yes : {before : Before} {n k node : ℕ} {y z : Proof} {path : Answers} →
      OwnRule schema tests tree before (split n y z) path → FailsAt schema tests tree before y (path_with path n true) k →
      node ≡ k + 1 → FailsAt schema tests tree before (split n y z) path node
  in_no : {before : Before} {n k node : ℕ} {y z : Proof} {path : Answers} →
      OwnRule schema tests tree before (split n y z) path → Closes schema tests tree before y (path_with path n true) →
      FailsAt schema tests tree (after_part before y) z (path_with path n false) k → node ≡ k + size y + 1 →
      FailsAt schema tests tree before (split n y z) path node
  in_label : {before : Before} {n k node : ℕ} {answers path : Answers} {p : Proof} →
      OwnRule schema tests tree before (label n answers p) path → FailsAt schema tests tree (inside_label before) p answers k →
      node ≡ k + 1 → FailsAt schema tests tree before (label n answers p) path node
