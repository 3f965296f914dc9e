-- What one `take` from a folder says.
use Rattle.std.specs.Prelude.{◌≡◌, ◌⊎◌, ℕ, ◌+◌, ◌<◌, ◌≤◌, List, [], ◌∷◌, ◌++◌, length, take, Option, Some, None, option_map, String, string_bytes, Result, Ok, Err, ⊤, if◌then◌else◌}
use Rattle.std.specs.Str.{bytes_eq}
use Rattle.pol_outside.specs.declared.folder.TheConstants.{MOST_TAKEN}
use Rattle.pol_outside.specs.declared.folder.TakeFault.{TakeFault}
use Rattle.pol_outside.specs.declared.folder.TakeFault.TheVariants.{Failed, TooLong, NoMemory}
use Rattle.pol_outside.specs.Faults.{Rose, one_more}

-- the bytes under each name, or none where the name isn't there
abbrev pub Files : Type 0
Files = List ℕ → Option (List ℕ)

-- where the folder tells what it holds, these bytes are the file of that name
abbrev pub IsFile : Option Files → List ℕ → List ℕ → Type 0
IsFile None name bytes = ⊤
IsFile (Some files) name bytes = files name ≡ Some bytes

-- these bytes begin what a name holds; where the name isn't there they are none
abbrev pub Begins : Option (List ℕ) → List ℕ → Type 0
Begins None given = given ≡ []
Begins (Some bytes) given = take (length given) bytes ≡ given

abbrev pub BeginsFile : Option Files → List ℕ → List ℕ → Type 0
BeginsFile None name given = ⊤
BeginsFile (Some files) name given = Begins (files name) given

-- a longer file, of which this is the front with one byte more than the limit
abbrev pub BeginsLonger : Option Files → List ℕ → ℕ → List ℕ → Type 0
BeginsLonger held name limit given =
    (bytes : List ℕ) × IsFile held name bytes × (limit < length bytes) × (given ≡ take (limit + 1) bytes)

-- what came of a file under a limit
abbrev pub Gives : Option Files → List ℕ → ℕ → Result Unit TakeFault → List ℕ → Type 0
Gives held name limit (Ok u) given = IsFile held name given × (length given ≤ limit)
Gives held name limit (Err TooLong) given = (length given ≡ limit + 1) × BeginsLonger held name limit given
Gives held name limit (Err Failed) given = BeginsFile held name given
Gives held name limit (Err NoMemory) given = BeginsFile held name given

-- the buffer has grown by what came of the file
pub record Takes (held : Option Files) (name : List ℕ) (limit : ℕ) (result : Result Unit TakeFault) (old new : List ℕ) : Type 0 where
  pub given : List ℕ
  pub grown : new ≡ old ++ given
  pub gives : Gives held name limit result given

-- the bytes of a name, where there is one
abbrev pub name_bytes : {A : Type 0} → Option (String A) → Option (List ℕ)
name_bytes text = option_map (λ s. string_bytes s) text

-- the folder whose every name stands for these bytes, where they are told
abbrev pub one_file : Option (List ℕ) → Option Files
one_file bytes = option_map (λ bs. λ name. Some bs) bytes

-- `Failed` is answered only where the count rose, and then the last fault is at that name. No other answer changes that name.
abbrev pub NamesFault : {T : Type 0} → Result T TakeFault → List ℕ → ℕ → ℕ → Option (List ℕ) → Option (List ℕ) → Type 0
NamesFault (Err Failed) name before now last_before last_now = Rose before now × (last_now ≡ Some name)
NamesFault (Err TooLong) name before now last_before last_now = last_now ≡ last_before
NamesFault (Err NoMemory) name before now last_before last_now = last_now ≡ last_before
NamesFault (Ok u) name before now last_before last_now = last_now ≡ last_before

-- `Failed` is answered where the last fault is at the file of this name. No other answer changes the name of the last fault.
abbrev pub FaultIsAt : {T : Type 0} → Result T TakeFault → Option (List ℕ) → Option (List ℕ) → Option (List ℕ) → Type 0
FaultIsAt (Err Failed) name before now = now ≡ name
FaultIsAt (Err TooLong) name before now = now ≡ before
FaultIsAt (Err NoMemory) name before now = now ≡ before
FaultIsAt (Ok u) name before now = now ≡ before

-- where the names that it was asked for are told, they have grown by these
abbrev pub AsksFor : Option (List (List ℕ)) → List (List ℕ) → Option (List (List ℕ)) → Type 0
AsksFor None names new = ⊤
AsksFor (Some before) names new = new ≡ Some (before ++ names)

-- they have grown by this name, once; or by none, where there was no memory
abbrev pub AsksOnce : {T : Type 0} → Result T TakeFault → List ℕ → Option (List (List ℕ)) → Option (List (List ℕ)) → Type 0
AsksOnce (Err Failed) name old new = AsksFor old (name ∷ []) new
AsksOnce (Err TooLong) name old new = AsksFor old (name ∷ []) new
AsksOnce (Err NoMemory) name old new = AsksFor old [] new ⊎ AsksFor old (name ∷ []) new
AsksOnce (Ok u) name old new = AsksFor old (name ∷ []) new

-- the count is one higher where `Failed` is answered, and after every other answer it is as it was
abbrev pub CountsFault : {T : Type 0} → Result T TakeFault → ℕ → ℕ → Type 0
CountsFault (Err Failed) before now = now ≡ one_more before
CountsFault (Err TooLong) before now = now ≡ before
CountsFault (Err NoMemory) before now = now ≡ before
CountsFault (Ok u) before now = now ≡ before

-- these bytes stand under the name, and every other name has what it had
abbrev pub Replaces : Files → List ℕ → List ℕ → Files → Type 0
Replaces old name bytes new = (other : List ℕ) → new other ≡ (if bytes_eq name other then Some bytes else old other)

-- each name has what it had
abbrev pub SameFiles : Files → Files → Type 0
SameFiles old new = (name : List ℕ) → new name ≡ old name

-- a folder is asked for at most 67,108,864 bytes at a call
abbrev pub FolderLimits : Type 0
FolderLimits = MOST_TAKEN ≡ 67108864
