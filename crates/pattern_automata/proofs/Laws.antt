-- What crates above may cite of this one.
use Rattle.std.proofs.Common.{◌≡◌, ℕ, ◌≤◌, List, length, All, take}
use Rattle.std.proofs.lemmas.List.{take_all}
use Rattle.pattern_automata.specs.Closed.{ClosedSetsAreEmpty}
use Rattle.pattern_automata.proofs.Empty.{no_text}

-- a closed set has no text that meets its clauses
pub closed_sets_are_empty : ClosedSetsAreEmpty
closed_sets_are_empty patterns clauses set range closed = no_text patterns clauses set closed range

-- what holds of the first elements holds of all, where there are no more
pub all-end : {X : Type 0} (P : X → Type 0) (xs : List X) (i : ℕ) → length xs ≤ i → All P (take i xs) → All P xs
all-end P xs i h all = let e : take i xs ≡ xs = take_all i xs h in rw e at all
