-- The exit numbers of the statuses.
use Rattle.std.specs.Prelude.{ℕ}
use Rattle.run_inputs.specs.declared.status.Status.{Status}
use Rattle.run_inputs.specs.declared.status.Status.TheVariants.{Holds, Fails, Refused, Undecided, Usage, ReadFault, WriteFault}
use Rattle.run_inputs.specs.declared.status.Status.TheVariants.{NoMemory, BadProof}

-- the program's exit number
abbrev pub exit_number : Status → ℕ
exit_number Holds = 0
exit_number Fails = 1
exit_number Refused = 2
exit_number Undecided = 3
exit_number Usage = 4
exit_number ReadFault = 5
exit_number WriteFault = 6
exit_number NoMemory = 7
exit_number BadProof = 8
