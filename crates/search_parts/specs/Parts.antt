-- Refutations while they are made. A node that is learned takes the next free number when it ends, so a part is judged by the lists
-- that are stored, and the order of their lines is one numbering of them.
use Rattle.std.specs.Prelude.{◌≡◌, ◌<◌, ◌+◌, ℕ, List, length, true, false, None, Some, slice_get}
use Rattle.formula_tree.specs.Answers.{Answers, Contained, answer_of}
use Rattle.formula_tree.specs.Runs.{path_with}
use Rattle.formula_tree.specs.Trees.{Tree}
use Rattle.formula_tree.specs.Values.{value}
use Rattle.formula_tree.specs.declared.value.Three.TheVariants.{No}
use Rattle.cnf_clauses.specs.Numbering.{clauses_of}
use Rattle.cnf_clauses.specs.Replays.{Replays}
use Rattle.nogoods.specs.Hits.{answers_at}
use Rattle.policy_model.specs.declared.schema.Schema.{Schema}
use Rattle.policy_model.specs.declared.test.Test.{Test}
use Rattle.slot_theory.specs.Cores.{Accepts}
use Rattle.refute_check.specs.Closing.{Rise}
use Rattle.refute_check.specs.Proofs.{Proof, by_clauses, by_slot, by_value, label, labels, reuse, split}
use Rattle.search_parts.specs.Trimmed.{NoneCanBeLeftOut}

-- a stored list is contained in the path
pub record IsStoredIn (store : List Answers) (n : ℕ) (path : Answers) : Type 0 where
  pub within : n < length store
  pub there : Contained (answers_at store n) path

-- a label's answers are those that are stored under its number
pub record IsStoredLabel (store : List Answers) (n : ℕ) (answers path : Answers) : Type 0 where
  pub stored : slice_get store n ≡ Some answers
  pub rise : Rise answers
  pub there : Contained answers path

-- the part closes under the path, by what is stored
abbrev pub ClosesByStore : List Answers → Schema → List Test → Tree → Proof → Answers → Type 0
ClosesByStore store schema tests tree (split n y z) path =
    ((n < length tests) × (answer_of path n ≡ None)) × ClosesByStore store schema tests tree y (path_with path n true) ×
    ClosesByStore store schema tests tree z (path_with path n false)
ClosesByStore store schema tests tree by_value path = value path tree ≡ No
ClosesByStore store schema tests tree (by_slot core proof) path = Accepts schema tests path core proof
ClosesByStore store schema tests tree (by_clauses hints) path = Replays (clauses_of (length tests) tree) path hints
ClosesByStore store schema tests tree (label n answers p) path =
    IsStoredLabel store n answers path × ClosesByStore store schema tests tree p answers
ClosesByStore store schema tests tree (reuse n) path = IsStoredIn store n path

-- each label's answers are those that are stored under its number
abbrev pub AreStored : List Answers → Proof → Type 0
AreStored store (split n y z) = AreStored store y × AreStored store z
AreStored store by_value = Unit {0}
AreStored store (by_slot core proof) = Unit {0}
AreStored store (by_clauses hints) = Unit {0}
AreStored store (label n answers p) = (slice_get store n ≡ Some answers) × AreStored store p
AreStored store (reuse n) = Unit {0}

-- labels are numbered as their nodes end, from k on, and what is reused has ended
abbrev pub EndInOrder : ℕ → Proof → Type 0
EndInOrder k (split n y z) = EndInOrder k y × EndInOrder (k + labels y) z
EndInOrder k by_value = Unit {0}
EndInOrder k (by_slot core proof) = Unit {0}
EndInOrder k (by_clauses hints) = Unit {0}
EndInOrder k (label n answers p) = EndInOrder k p × (n ≡ k + labels p)
EndInOrder k (reuse n) = n < k

-- each label is that of a split
abbrev mutual
  pub LabelSplits : Proof → Type 0
  LabelSplits (split n y z) = LabelSplits y × LabelSplits z
  LabelSplits by_value = Unit {0}
  LabelSplits (by_slot core proof) = Unit {0}
  LabelSplits (by_clauses hints) = Unit {0}
  LabelSplits (label n answers p) = IsSplitWithSuch p
  LabelSplits (reuse n) = Unit {0}

  pub IsSplitWithSuch : Proof → Type 0
  IsSplitWithSuch (split n y z) = LabelSplits y × LabelSplits z
  IsSplitWithSuch by_value = ⊥
  IsSplitWithSuch (by_slot core proof) = ⊥
  IsSplitWithSuch (by_clauses hints) = ⊥
  IsSplitWithSuch (label n answers p) = ⊥
  IsSplitWithSuch (reuse n) = ⊥

-- trimmed, by what is stored: of the stored lists the first k had ended before the part
abbrev pub IsTrimmedBy : List Answers → Schema → List Test → Tree → ℕ → Proof → Answers → Type 0
IsTrimmedBy store schema tests tree k (split n y z) path =
    (¬ ClosesByStore store schema tests tree y path) × ((i : ℕ) → i < k → ¬ Contained (answers_at store i) path) ×
    IsTrimmedBy store schema tests tree k y (path_with path n true) ×
    IsTrimmedBy store schema tests tree (k + labels y) z (path_with path n false)
IsTrimmedBy store schema tests tree k (label n answers p) path =
    NoneCanBeLeftOut (ClosesByStore store schema tests tree p) answers × IsTrimmedBy store schema tests tree k p answers
IsTrimmedBy store schema tests tree k by_value path = Unit {0}
IsTrimmedBy store schema tests tree k (by_slot core proof) path = Unit {0}
IsTrimmedBy store schema tests tree k (by_clauses hints) path = Unit {0}
IsTrimmedBy store schema tests tree k (reuse n) path = Unit {0}

-- trimmed under whatever answers of the path it closes under: inside a label the path is shorter than that of the search
abbrev pub IsTrimmedAlong : List Answers → Schema → List Test → Tree → ℕ → Proof → Answers → Type 0
IsTrimmedAlong store schema tests tree k p path = (few : Answers) → Contained few path →
    ClosesByStore store schema tests tree p few → IsTrimmedBy store schema tests tree k p few
