-- The numbers that the program ends with.
use Rattle.std.specs.Prelude.{◌≡◌, ◌≢◌, ◌⊎◌, ℕ, Bool}
use Rattle.std.specs.IoError.{error_kind}
use Rattle.std.specs.declared.io.Error.{Error}
use Rattle.std.specs.declared.io.ErrorKind.TheVariants.{OutOfMemory}
use Rattle.run_inputs.specs.Statuses.{exit_number}
use Rattle.run_inputs.specs.declared.status.Status.{Status}
use Rattle.run_inputs.specs.declared.status.Status.TheVariants.{NoMemory}
use Rattle.compare_program.specs.declared.ending.TheConstants.{NO_ARGUMENTS}

-- the program's exit number, and whether it ended by a run
pub record End : Type 0 where
  pub number : ℕ
  pub is_of_run : Bool

-- the exit number of a status, or that of refused arguments, which no status has
abbrev pub IsEndNumber : ℕ → Type 0
IsEndNumber n = ((status : Status) × (n ≡ exit_number status)) ⊎ (n ≡ NO_ARGUMENTS)

-- the exit number of refused arguments is 9
abbrev pub EndNumbers : Type 0
EndNumbers = NO_ARGUMENTS ≡ 9

-- the exit number where there are no arguments: that of want of memory, or that of refused arguments
abbrev pub IsRefusedNumber : Error → ℕ → Type 0
IsRefusedNumber error n =
    ((error_kind error ≡ OutOfMemory) × (n ≡ exit_number NoMemory)) ⊎ ((error_kind error ≢ OutOfMemory) × (n ≡ NO_ARGUMENTS))
