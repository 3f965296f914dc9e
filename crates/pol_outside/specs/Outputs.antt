-- How often writes failed, of what tells that.
use Rattle.std.specs.Prelude.{◌≡◌, ℕ, ◌+◌, ◌==◌, Bool, true, false, Option, Some, None, Result, Ok, Err, ⊤}

-- whether a write failed: with an error, or since it took no byte
abbrev pub is_failed_write : {E : Type 0} → Result ℕ E → Bool
is_failed_write (Ok n) = n == 0
is_failed_write (Err e) = true

-- where failures are told, there is one more after one, and else there are as many
abbrev pub CountsFailure : Bool → Option ℕ → Option ℕ → Type 0
CountsFailure failed None new = ⊤
CountsFailure true (Some before) new = new ≡ Some (before + 1)
CountsFailure false (Some before) new = new ≡ Some before

-- there is one more exactly where an error is answered
abbrev pub TellsFailure : {T E : Type 0} → Result T E → Option ℕ → Option ℕ → Type 0
TellsFailure (Ok v) old new = CountsFailure false old new
TellsFailure (Err e) old new = CountsFailure true old new
