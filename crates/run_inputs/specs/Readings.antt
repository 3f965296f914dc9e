-- The files of a run, read in their order.
use Rattle.std.specs.Prelude.{◌≡◌, ◌⊎◌, ⊤, ℕ, List, [], ◌∷◌, ◌++◌, Option, Some, None, map, option_map, Result, Ok, Err, Vec}
use Rattle.std.specs.declared.alloc.Global.{Global}
use Rattle.pol_outside.specs.Faults.{Rose}
use Rattle.pol_outside.specs.Folder.{AsksFor, Files}
use Rattle.run_inputs.specs.declared.printed.EarlyEnd.{EarlyEnd}
use Rattle.run_inputs.specs.declared.printed.EarlyEnd.TheVariants.{Answered, NoMemory}
use Rattle.run_inputs.specs.declared.printed.Printed.{Printed}
use Rattle.run_inputs.specs.declared.role.Role.{Role}
use Rattle.run_inputs.specs.declared.status.Status.TheVariants.{ReadFault, Refused}
use Rattle.run_inputs.specs.FileLines.{read_fault_line, too_long_line}
use Rattle.run_inputs.specs.Files.{IsLong, IsShort}
use Rattle.run_inputs.specs.Printing.{PrintsText}

-- the folder of a run: what it holds; and how many faults it had, the name of the last, and the names that it was asked for, before
-- the run and now
pub record Reading : Type 0 where
  pub held : Option Files
  pub faults_before : ℕ
  pub faults : ℕ
  pub last_before : Option (List ℕ)
  pub last : Option (List ℕ)
  pub asked_before : Option (List (List ℕ))
  pub asked : Option (List (List ℕ))

-- what a folder's members tell of it before a run and now
abbrev pub reading_of : {X : Type 0} → (X → Option Files) → (X → ℕ) → (X → Option (List ℕ)) → (X → Option (List (List ℕ))) → X → X → Reading
reading_of held faults last asked before now = record {
  held = held before;
  faults_before = faults before;
  faults = faults now;
  last_before = last before;
  last = last now;
  asked_before = asked before;
  asked = asked now;
}

-- a file that a command names, and what it is to the command
pub record FileName : Type 0 where
  pub role : Role
  pub name : List ℕ

abbrev pub file : Role → List ℕ → FileName
file role name = record { role = role; name = name }

-- the folder was asked for these files, once each and in this order, and for no other
abbrev pub AsksFiles : List FileName → Reading → Type 0
AsksFiles files r = AsksFor r.asked_before (map (λ f. f.name) files) r.asked

-- these files were asked for, and no file was failed at: the name of the folder's last fault is as it was
abbrev pub IsCalm : List FileName → Reading → Type 0
IsCalm files r = (r.last ≡ r.last_before) × AsksFiles files r

-- want of memory ended the reading of these files: the first of them were asked for, and none was failed at
pub record IsStopped (files : List FileName) (r : Reading) : Type 0 where
  pub front : List FileName
  pub behind : List FileName
  pub are : files ≡ front ++ behind
  pub calm : IsCalm front r

-- a file that may be named, and the bytes of one
abbrev pub if_named : Role → Option (List ℕ) → List FileName
if_named role None = []
if_named role (Some name) = file role name ∷ []

abbrev pub if_given : Option (List ℕ) → List (List ℕ)
if_given None = []
if_given (Some bytes) = bytes ∷ []

-- the bytes of the files, each within its limit
abbrev pub AreRead : Option Files → List FileName → List (List ℕ) → Type 0
AreRead held [] [] = ⊤
AreRead held (f ∷ fs) (bytes ∷ rest) = IsShort held f.role f.name bytes × AreRead held fs rest
AreRead held _ _ = ⊥

-- what is printed of a file: that the folder failed in this run, and at this file last; or that the file is too long, and the name of
-- the folder's last fault is as it was
abbrev pub FileFails : FileName → Reading → Printed → Type 0
FileFails f r p =
    (Rose r.faults_before r.faults × (r.last ≡ Some f.name) × PrintsText (read_fault_line f.role) ReadFault p)
    ⊎ (IsLong r.held f.role f.name × (r.last ≡ r.last_before) × PrintsText (too_long_line f.role) Refused p)

-- what is printed of the first of the files that fails: those before it were read within their limits, and none behind it was asked for
pub record FilesFail (files : List FileName) (r : Reading) (p : Printed) : Type 0 where
  pub front : List FileName
  pub failing : FileName
  pub behind : List FileName
  pub are : files ≡ front ++ failing ∷ behind
  pub contents : List (List ℕ)
  pub read : AreRead r.held front contents
  pub asked : AsksFiles (front ++ failing ∷ []) r
  pub fails : FileFails failing r p

-- all files were read within their limits, and of their contents, whose bytes in order are these, this holds
pub record OfReadFiles (held : Option Files) (files : List FileName) {C : Type 0} (bytes : C → List (List ℕ)) (P : C → Type 0)
    : Type 0 where
  pub contents : C
  pub read : AreRead held files (bytes contents)
  pub holds : P contents

-- files that are asked for: their bytes within their limits, or what is printed of the first that fails, or want of memory without a fault
abbrev pub AreFilesRead : {X : Type 0} → List FileName → (X → List (List ℕ)) → Reading → Result X EarlyEnd → Type 0
AreFilesRead files bytes r (Ok x) = AreRead r.held files (bytes x) × IsCalm files r
AreFilesRead files bytes r (Err (Answered p)) = FilesFail files r p
AreFilesRead files bytes r (Err NoMemory) = IsStopped files r

-- the bytes of one file, and of one that may be named
abbrev pub one_content : Vec ℕ Global → List (List ℕ)
one_content bytes = bytes.items ∷ []

abbrev pub content_if_given : Option (Vec ℕ Global) → List (List ℕ)
content_if_given bytes = if_given (option_map (λ b. b.items) bytes)
