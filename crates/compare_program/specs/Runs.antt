-- How a run of the program ends.
use Rattle.std.specs.Prelude.{◌≡◌, ◌≤◌, List, drop, Option, None, Result, Ok, Err, String, Vec, true, false, ⊤}
use Rattle.std.specs.IoError.{error_kind}
use Rattle.std.specs.declared.alloc.Global.{Global}
use Rattle.std.specs.declared.io.Error.{Error}
use Rattle.std.specs.declared.io.ErrorKind.TheVariants.{OutOfMemory}
use Rattle.std.specs.declared.vec.IntoIter.{IntoIter}
use Rattle.std.specs.Vec.Iter.{into_iter_items}
use Rattle.command_words.specs.Asked.{asked_by}
use Rattle.pol_outside.specs.Faults.{Rose}
use Rattle.run_inputs.specs.Readings.{Reading}
use Rattle.run_inputs.specs.Statuses.{exit_number}
use Rattle.run_inputs.specs.declared.status.Status.{Status}
use Rattle.compare_cli.specs.Commands.{NameNoFile}
use Rattle.compare_cli.specs.Complete.{IsAccepted, IsDecided}
use Rattle.compare_cli.specs.Promises.{IsUsageOrFault, Promises, Writing}
use Rattle.compare_program.specs.Numbers.{End, IsRefusedNumber}

-- the words after the first, which is the program's name
abbrev pub arguments_of : IntoIter (String Global) Global → List (String Global)
arguments_of words = drop 1 (into_iter_items words)

-- these are the arguments among the runtime's words; or its error, or there was no memory
abbrev pub HasArguments : Result (IntoIter (String Global) Global) Error → Result (Vec (String Global) Global) Error → Type 0
HasArguments (Ok words) (Ok arguments) = arguments.items ≡ arguments_of words
HasArguments (Ok words) (Err error) = error_kind error ≡ OutOfMemory
HasArguments (Err refused) (Ok arguments) = ⊥
HasArguments (Err refused) (Err error) = error ≡ refused

-- a run of the arguments keeps what is promised of it
pub record KeepsPromises (arguments : List (String Global)) (r : Reading) (w : Writing) (status : Status) : Type 0 where
  pub promises : Promises (asked_by arguments) r w status
  pub usage : asked_by arguments ≡ None → IsUsageOrFault status
  pub reads : r.faults_before ≤ r.faults
  pub writes : w.faults_before ≤ w.faults
  pub complete : IsAccepted r.held (asked_by arguments) → ¬ Rose r.faults_before r.faults → ¬ Rose w.faults_before w.faults
      → IsDecided (asked_by arguments) status

-- the end is that of a run of the arguments
pub record IsRunEnd (arguments : List (String Global)) (r : Reading) (w : Writing) (end : End) : Type 0 where
  pub status : Status
  pub run : KeepsPromises arguments r w status
  pub number : end.number ≡ exit_number status
  pub made : end.is_of_run ≡ true

-- the end of a run of the arguments; where there are none, no run was made and nothing was written
abbrev pub IsProgramEnd : Result (Vec (String Global) Global) Error → Reading → Writing → End → Type 0
IsProgramEnd (Ok arguments) r w end = IsRunEnd arguments.items r w end
IsProgramEnd (Err error) r w end = IsRefusedNumber error end.number × (end.is_of_run ≡ false) × (w.now ≡ w.before)

-- the arguments name no file, or there are none
abbrev pub NamesNoFile : Result (Vec (String Global) Global) Error → Type 0
NamesNoFile (Ok arguments) = NameNoFile (asked_by arguments.items)
NamesNoFile (Err error) = ⊤
