-- What is kept, where it is looked up.
use Rattle.std.proofs.Common.{◌≡◌, ℕ, Bool, List}
use Rattle.std.specs.Prelude.{IfSome, Option, Some, None, slice_index_or}
use Rattle.test_relations.specs.Kept.{AreKnown, IsKnownAt}

pub known-at : (relation : ℕ → ℕ → Type 0) (kept : List (Option Bool)) (place : ℕ) (known : Option Bool) → AreKnown relation kept → slice_index_or kept place None ≡ known → IfSome known (IsKnownAt relation place)
known-at relation kept place (Some answer) are at = are place answer at
known-at relation kept place None are at = tt
