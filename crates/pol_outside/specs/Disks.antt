-- What a disk says of opening a file, and of reading a part of it.
use Rattle.std.specs.Prelude.{◌≡◌, ℕ, ◌≤◌, List, length, take, Option, Some, None, Result, Ok, Err, ⊤}
use Rattle.std.specs.Io.KnownBytes.{Consumes, IsAtEnd, Keeps}
use Rattle.pol_outside.specs.Folder.{Files}

-- where the disk tells what it holds, all the bytes under the name are left in the file
abbrev pub OpensFile : Option Files → List ℕ → Option (List ℕ) → Type 0
OpensFile None name left = ⊤
OpensFile (Some files) name left = (bytes : List ℕ) × (files name ≡ Some bytes) × (left ≡ Some bytes)

-- the first n bytes of the part are the next of the file, none only at its end; or nothing was read
abbrev pub ReadsPart : {E : Type 0} → Result ℕ E → List ℕ → Option (List ℕ) → Option (List ℕ) → Type 0
ReadsPart (Ok n) part old new = (n ≤ length part) × Consumes old new (take n part) × (n ≡ 0 → IsAtEnd new)
ReadsPart (Err e) part old new = Keeps old new

-- an error is at the file of this name; else the name of the last fault is as it was
abbrev pub FaultsAt : {T E : Type 0} → Result T E → Option (List ℕ) → Option (List ℕ) → Option (List ℕ) → Type 0
FaultsAt (Ok v) name before now = now ≡ before
FaultsAt (Err e) name before now = now ≡ name
