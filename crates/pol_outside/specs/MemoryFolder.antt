-- What a folder in memory stands for: its files, and its calls with their faults.
use Rattle.std.specs.Prelude.{◌≡◌, ℕ, ◌==◌, Bool, true, false, List, [], ◌∷◌, ◌++◌, map, Option, None, option_map, string_bytes, is_none, Result, Ok, Err, ⊤, if◌then◌else◌}
use Rattle.std.specs.List.{list_any}
use Rattle.std.specs.BTreeMap.{get_by_text}
use Rattle.pol_outside.specs.Faults.{one_more}
use Rattle.pol_outside.specs.Folder.{Files}
use Rattle.pol_outside.specs.declared.folder.TakeFault.{TakeFault}
use Rattle.pol_outside.specs.declared.folder.TakeFault.TheVariants.{Failed, TooLong, NoMemory}
use Rattle.pol_outside.specs.declared.memory_folder.MemoryFolder.{MemoryFolder}

-- the bytes that a folder in memory holds under each name
abbrev pub files_of : MemoryFolder → Files
files_of folder = λ name. option_map (λ v. v.items) (get_by_text folder.files name)

-- the names that it was asked for, in their order
abbrev pub asked_names : MemoryFolder → List (List ℕ)
asked_names folder = map (λ s. string_bytes s) folder.asked.items

-- the numbers of the calls that are to fail, counted from 1; how many calls were made, and for which names; the faults
pub record FolderCalls : Type 0 where
  pub failing : List ℕ
  pub made : ℕ
  pub asked : List (List ℕ)
  pub faults : ℕ
  pub last_fault : Option (List ℕ)

abbrev pub folder_calls : MemoryFolder → FolderCalls
folder_calls folder = record {
  failing = folder.failing.items;
  made = folder.calls;
  asked = asked_names folder;
  faults = folder.faults;
  last_fault = option_map (λ s. string_bytes s) folder.last_fault;
}

-- no call was made and none is to fail
abbrev pub no_folder_calls : FolderCalls
no_folder_calls = record { failing = []; made = 0; asked = []; faults = 0; last_fault = None }

-- the calls where one more is to fail
abbrev pub take_fails_at : ℕ → FolderCalls → FolderCalls
take_fails_at call calls = record calls { failing = calls.failing ++ call ∷ [] }

-- whether the next call is among those that are to fail
abbrev pub next_is_to_fail : List ℕ → ℕ → Bool
next_is_to_fail failing made = list_any (λ call. call == one_more made) failing

-- whether the next call is a fault: it is to fail, or there is no file of the name
abbrev pub next_is_fault : MemoryFolder → List ℕ → Bool
next_is_fault folder name = if next_is_to_fail folder.failing.items folder.calls then true else is_none (files_of folder name)

-- a fault is answered where the call is one, and no file is given then; only want of memory may come besides
abbrev pub FaultIsAnswered : Bool → Result Unit TakeFault → Type 0
FaultIsAnswered is_fault (Err Failed) = is_fault ≡ true
FaultIsAnswered is_fault (Err TooLong) = is_fault ≡ false
FaultIsAnswered is_fault (Err NoMemory) = ⊤
FaultIsAnswered is_fault (Ok u) = is_fault ≡ false
