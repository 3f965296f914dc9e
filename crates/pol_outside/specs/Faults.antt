-- Counts of faults. A count is below 2 ^ 64, never falls, and stands still once it is at its last value.
use Rattle.std.specs.Prelude.{◌≡◌, ℕ, ◌+◌, ◌-◌, ◌^◌, ◌≤◌, min, Result, Ok, Err}

-- the count with one fault more, or its last value
abbrev pub one_more : ℕ → ℕ
one_more before = min (before + 1) (2 ^ 64 - 1)

-- the count rose, or stands at its last value
abbrev pub Rose : ℕ → ℕ → Type 0
Rose before now = min (before + 1) (2 ^ 64 - 1) ≤ now

-- the count is one higher after an error, and else as it was
abbrev pub CountsError : {T E : Type 0} → Result T E → ℕ → ℕ → Type 0
CountsError (Ok v) before now = now ≡ before
CountsError (Err e) before now = now ≡ one_more before
