-- The numbers of labels by their lines: a label stands before all in it, so its number there isn't that of its end.
use Rattle.std.specs.Prelude.{◌≡◌, ◌+◌, ℕ, List, [], ◌∷◌, ◌++◌, ◌<◌, ◌≤◌, length, zip, slice_index_or}
use Rattle.formula_tree.specs.Answers.{Answers}
use Rattle.refute_check.specs.Closing.{Before}
use Rattle.refute_check.specs.Proofs.{Proof, by_clauses, by_slot, by_value, label, labels, reuse, split}

-- the numbers by lines of the labels of a part, in the order of their ends, where so many stand before
abbrev pub line_names : ℕ → Proof → List ℕ
line_names begun (split n y z) = line_names begun y ++ line_names (begun + labels y) z
line_names begun by_value = []
line_names begun (by_slot core proof) = []
line_names begun (by_clauses hints) = []
line_names begun (label n answers p) = line_names (begun + 1) p ++ begun ∷ []
line_names begun (reuse n) = []

-- the part with these numbers; `names` are those of the labels that have ended before
abbrev pub renamed_proof : List ℕ → ℕ → Proof → Proof
renamed_proof names begun (split n y z) = split n (renamed_proof names begun y) (renamed_proof (names ++ line_names begun y) (begun + labels y) z)
renamed_proof names begun by_value = by_value
renamed_proof names begun (by_slot core proof) = by_slot core proof
renamed_proof names begun (by_clauses hints) = by_clauses hints
renamed_proof names begun (label n answers p) = label begun answers (renamed_proof names (begun + 1) p)
renamed_proof names begun (reuse n) = reuse (slice_index_or names n 0)

-- so many numbers that differ, each of them from the first of two on and below the second
pub record AreNames (from end count : ℕ) (names : List ℕ) : Type 0 where
  pub count_is : length names ≡ count
  pub above : (i : ℕ) → i < count → from ≤ slice_index_or names i 0
  pub below : (i : ℕ) → i < count → slice_index_or names i 0 < end
  pub differ : (i j : ℕ) → i < count → j < count → slice_index_or names i 0 ≡ slice_index_or names j 0 → i ≡ j

-- what stands before a node, by the stored lists that have ended and their numbers
-- (a zip ends with the shorter list: as many as there are numbers)
abbrev pub before_by : List Answers → List ℕ → ℕ → Before
before_by store names begun = record { begun = begun; ended = zip names store }
