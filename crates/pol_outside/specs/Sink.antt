-- What a sink says of a write.
use Rattle.std.specs.Prelude.{◌≡◌, ℕ, ◌<◌, ◌≤◌, List, ◌++◌, length, take, Option, Some, None, Result, Ok, Err, ⊤}
use Rattle.std.specs.Io.KnownBytes.{Keeps}
use Rattle.pol_outside.specs.Faults.{Rose}
use Rattle.pol_outside.specs.declared.sink.SinkFault.{SinkFault}

-- where the sink tells what was written, these bytes were added
abbrev pub Appends : Option (List ℕ) → List ℕ → Option (List ℕ) → Type 0
Appends None bytes new = ⊤
Appends (Some written) bytes new = new ≡ Some (written ++ bytes)

-- the first n bytes were added, at least one; or nothing was
abbrev pub Puts : Result ℕ SinkFault → List ℕ → Option (List ℕ) → Option (List ℕ) → Type 0
Puts (Ok n) piece old new = (0 < n) × (n ≤ length piece) × Appends old (take n piece) new
Puts (Err e) piece old new = Keeps old new

-- all the bytes were added; or the first of them were, maybe none and never all
abbrev pub PutsAll : Result Unit SinkFault → List ℕ → Option (List ℕ) → Option (List ℕ) → Type 0
PutsAll (Ok u) bytes old new = Appends old bytes new
PutsAll (Err e) bytes old new = (n : ℕ) × (n < length bytes) × Appends old (take n bytes) new

-- a fault is answered only where the count rose
abbrev pub RisesAtFault : {T : Type 0} → Result T SinkFault → ℕ → ℕ → Type 0
RisesAtFault (Err e) before now = Rose before now
RisesAtFault (Ok v) before now = ⊤
