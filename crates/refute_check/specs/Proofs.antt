-- Refutations as plain trees.
use Rattle.std.specs.Prelude.{ℕ, ◌+◌, max, List, [], ◌∷◌, ◌++◌}
use Rattle.formula_tree.specs.Answers.{Answers}
use Rattle.refute_check.specs.declared.refutation.Refutation.{Refutation, fold-Refutation}
use Rattle.refute_check.specs.declared.refutation.Refutation.TheOpen.{Refutation-F}
use Rattle.slot_theory.specs.declared.outcome.SlotProof.{SlotProof}

-- a refutation: a split on a test with a refutation for each answer; the tree's value; a core of one slot with its proof; hints of
-- clauses; a label, which numbers a refutation that closes under answers of its own; or the reuse of a label
pub data Proof : Type 0 where
  split : ℕ → Proof → Proof → Proof
  by_value : Proof
  by_slot : List ℕ → SlotProof → Proof
  by_clauses : List ℕ → Proof
  label : ℕ → Answers → Proof → Proof
  reuse : ℕ → Proof

-- one level of a refutation, with what is below it already seen as a tree
abbrev pub refutation_step : Refutation-F Proof → Proof
refutation_step (Refutation-F.Split n y z) = split n y.value z.value
refutation_step Refutation-F.ByValue = by_value
refutation_step (Refutation-F.BySlot core proof) = by_slot core proof.value
refutation_step (Refutation-F.ByClauses hints) = by_clauses hints
refutation_step (Refutation-F.Label n answers inner) = label n answers inner.value
refutation_step (Refutation-F.Reuse n) = reuse n

-- the tree that a refutation stands for, read through every sharing
abbrev pub proof_of : Refutation → Proof
proof_of = fold-Refutation Proof refutation_step

-- how many nodes it has, a shared node counted as often as it stands
abbrev pub size : Proof → ℕ
size (split n y z) = size y + size z + 1
size by_value = 1
size (by_slot core proof) = 1
size (by_clauses hints) = 1
size (label n answers p) = size p + 1
size (reuse n) = 1

-- how many splits it has, a shared one counted as often as it stands
abbrev pub splits : Proof → ℕ
splits (split n y z) = splits y + splits z + 1
splits by_value = 0
splits (by_slot core proof) = 0
splits (by_clauses hints) = 0
splits (label n answers p) = splits p
splits (reuse n) = 0

-- how deep its splits and labels nest
abbrev pub depth : Proof → ℕ
depth (split n y z) = max (depth y) (depth z) + 1
depth by_value = 0
depth (by_slot core proof) = 0
depth (by_clauses hints) = 0
depth (label n answers p) = depth p + 1
depth (reuse n) = 0

-- how many labels stand in it
abbrev pub labels : Proof → ℕ
labels (split n y z) = labels y + labels z
labels by_value = 0
labels (by_slot core proof) = 0
labels (by_clauses hints) = 0
labels (label n answers p) = labels p + 1
labels (reuse n) = 0

-- its labels, each with its answers, in the order in which their nodes end: that of a label ends after all in it
abbrev pub ended_in : Proof → List (ℕ × Answers)
ended_in (split n y z) = ended_in y ++ ended_in z
ended_in by_value = []
ended_in (by_slot core proof) = []
ended_in (by_clauses hints) = []
ended_in (label n answers p) = ended_in p ++ (n, answers) ∷ []
ended_in (reuse n) = []
