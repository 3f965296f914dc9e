-- What holds of each item of a list, one after another.
use Rattle.std.proofs.Common.{◌≡◌, ◌<◌, ◌≤◌, ℕ, List, length, get_or, take, Some, All}
use Rattle.std.specs.Prelude.{slice_get}
use Rattle.std.proofs.lemmas.List.{take_all}
use Rattle.std.proofs.lemmas.Option.{slice_get_within, get_or_from_slice_get}

-- the item that a list has at an index
pub slice_get-at : {T : Type 0} (xs : List T) (i : ℕ) (v d : T) → slice_get xs i ≡ Some v → (i < length xs) × (get_or xs i d ≡ v)
slice_get-at xs i v d e = (slice_get_within xs i v e, get_or_from_slice_get xs i v d e)

-- what holds of all items
pub All-done : {T : Type 0} (P : T → Type 0) (xs : List T) (i : ℕ) → length xs ≤ i → All P (take i xs) → All P xs
All-done P xs i end all = rw take_all at all
