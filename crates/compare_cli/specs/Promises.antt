-- What a run promises, by the status that it ends with.
use Rattle.std.specs.Prelude.{◌≡◌, ◌<◌, ℕ, List, length, take, Option, ⊤, string_bytes}
use Rattle.command_words.specs.Asked.{Asked}
use Rattle.pol_outside.specs.Faults.{Rose}
use Rattle.pol_outside.specs.Sink.{Appends}
use Rattle.run_inputs.specs.declared.printed.Printed.{Printed}
use Rattle.run_inputs.specs.declared.status.Status.{Status}
use Rattle.run_inputs.specs.declared.status.Status.TheVariants.{Usage, WriteFault, NoMemory}
use Rattle.run_inputs.specs.Readings.{IsStopped, Reading}
use Rattle.compare_cli.specs.Commands.{IsPrinted, files_named}

-- the sink of a run: how many faults it had and what was written, if it tells, before the run and now
pub record Writing : Type 0 where
  pub faults_before : ℕ
  pub faults : ℕ
  pub before : Option (List ℕ)
  pub now : Option (List ℕ)

-- a text of this status that may be printed, and it was written whole
pub record Says (asked : Option Asked) (r : Reading) (w : Writing) (status : Status) : Type 0 where
  pub printed : Printed
  pub may : IsPrinted asked r printed
  pub of_status : printed.status ≡ status
  pub written : Appends w.before (string_bytes printed.text) w.now

-- the sink's count of faults rose, and the first bytes of a text that may be printed were written, but not all
pub record Breaks (asked : Option Asked) (r : Reading) (w : Writing) : Type 0 where
  pub rose : Rose w.faults_before w.faults
  pub printed : Printed
  pub may : IsPrinted asked r printed
  pub count : ℕ
  pub less : count < length (string_bytes printed.text)
  pub written : Appends w.before (take count (string_bytes printed.text)) w.now

-- what a run promises by each status
abbrev pub Promises : Option Asked → Reading → Writing → Status → Type 0
-- of a text that may be printed the beginning was written, and not the whole
Promises asked r w WriteFault = Breaks asked r w
-- nothing was written, and no file was failed at
Promises asked r w NoMemory = (w.now ≡ w.before) × IsStopped (files_named asked) r
-- what was written is the whole of a text that may be printed with this status
Promises asked r w status = Says asked r w status

-- how a run may end whose arguments ask for nothing
abbrev pub IsUsageOrFault : Status → Type 0
IsUsageOrFault Usage = ⊤
IsUsageOrFault WriteFault = ⊤
IsUsageOrFault NoMemory = ⊤
IsUsageOrFault _ = ⊥

-- how the writing of what is printed ends, by the status
abbrev pub IsWritten : Printed → Writing → Status → Type 0
IsWritten p w WriteFault =
    Rose w.faults_before w.faults ×
    ((count : ℕ) × (count < length (string_bytes p.text)) × Appends w.before (take count (string_bytes p.text)) w.now)
IsWritten p w NoMemory = ⊥
IsWritten p w status = (p.status ≡ status) × Appends w.before (string_bytes p.text) w.now
