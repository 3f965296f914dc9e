-- How the writing of what is printed ends says what the run promises.
use Rattle.std.proofs.Common.{◌≡◌, Option, Some, None, subst, sym}
use Rattle.std.specs.Prelude.{string_bytes}
use Rattle.command_words.specs.Asked.{Asked, CheckCommand, CompareCommand, LoadCommand, ReachCommand, SummaryCommand, CheckSummaryCommand, IdleCommand}
use Rattle.command_words.specs.Asked.{EmitCommand, EvalCommand, NewAccessCommand, CheckNewAccessCommand, NewAccessUsage}
use Rattle.pol_outside.specs.Faults.{Rose}
use Rattle.pol_outside.specs.Sink.{Appends}
use Rattle.run_inputs.specs.declared.printed.Printed.{Printed}
use Rattle.run_inputs.specs.declared.status.Status.{Status}
use Rattle.run_inputs.specs.declared.status.Status.TheVariants.{Holds, Fails, Refused, Undecided, Usage, ReadFault, WriteFault}
use Rattle.run_inputs.specs.declared.status.Status.TheVariants.{NoMemory, BadProof}
use Rattle.run_inputs.specs.Printing.{IsOfText}
use Rattle.run_inputs.specs.Readings.{Reading}
use Rattle.compare_cli.specs.Commands.{IsPrinted}
use Rattle.compare_cli.specs.Complete.{IsAccepted, IsDecided}
use Rattle.compare_cli.specs.Promises.{IsUsageOrFault, IsWritten, Promises, Writing}
use Rattle.compare_cli.proofs.Deciding.{printed_decides}

-- what was written whole, with a status of a text
pub written_whole : (p : Printed) (w : Writing) (s : Status) → p.status ≡ s → IsOfText s → Appends w.before (string_bytes p.text) w.now → IsWritten p w s
written_whole p w WriteFault is of whole = absurd of
written_whole p w NoMemory is of whole = absurd of
written_whole p w Holds is of whole = (is, whole)
written_whole p w Fails is of whole = (is, whole)
written_whole p w Refused is of whole = (is, whole)
written_whole p w Undecided is of whole = (is, whole)
written_whole p w Usage is of whole = (is, whole)
written_whole p w ReadFault is of whole = (is, whole)
written_whole p w BadProof is of whole = (is, whole)

pub promised : (asked : Option Asked) (r : Reading) (w : Writing) (p : Printed) (s : Status) → IsPrinted asked r p → IsWritten p w s
    → Promises asked r w s
promised asked r w p WriteFault may ends = record { rose = ends.0; printed = p; may = may; count = ends.1.0; less = ends.1.1; written = ends.1.2 }
promised asked r w p NoMemory may ends = absurd ends
promised asked r w p Holds may ends = record { printed = p; may = may; of_status = ends.0; written = ends.1 }
promised asked r w p Fails may ends = record { printed = p; may = may; of_status = ends.0; written = ends.1 }
promised asked r w p Refused may ends = record { printed = p; may = may; of_status = ends.0; written = ends.1 }
promised asked r w p Undecided may ends = record { printed = p; may = may; of_status = ends.0; written = ends.1 }
promised asked r w p Usage may ends = record { printed = p; may = may; of_status = ends.0; written = ends.1 }
promised asked r w p ReadFault may ends = record { printed = p; may = may; of_status = ends.0; written = ends.1 }
promised asked r w p BadProof may ends = record { printed = p; may = may; of_status = ends.0; written = ends.1 }

-- arguments that ask for nothing are answered by the usage line
usage_printed : (r : Reading) (p : Printed) → IsPrinted None r p → p.status ≡ Usage
usage_printed r p may = may.0.1

usage_status : (w : Writing) (p : Printed) (s : Status) → p.status ≡ Usage → IsWritten p w s → IsUsageOrFault s
usage_status w p WriteFault is ends = tt
usage_status w p NoMemory is ends = tt
usage_status w p Usage is ends = tt
usage_status w p Holds is ends = subst IsUsageOrFault ends.0 (subst IsUsageOrFault (sym is) tt)
usage_status w p Fails is ends = subst IsUsageOrFault ends.0 (subst IsUsageOrFault (sym is) tt)
usage_status w p Refused is ends = subst IsUsageOrFault ends.0 (subst IsUsageOrFault (sym is) tt)
usage_status w p Undecided is ends = subst IsUsageOrFault ends.0 (subst IsUsageOrFault (sym is) tt)
usage_status w p ReadFault is ends = subst IsUsageOrFault ends.0 (subst IsUsageOrFault (sym is) tt)
usage_status w p BadProof is ends = subst IsUsageOrFault ends.0 (subst IsUsageOrFault (sym is) tt)

pub usage_only : (asked : Option Asked) (r : Reading) (w : Writing) (p : Printed) (s : Status) → IsPrinted asked r p → IsWritten p w s
    → asked ≡ None → IsUsageOrFault s
usage_only asked r w p s may ends none =
    usage_status w p s (usage_printed r p (subst (λ (o : Option Asked). IsPrinted o r p) none may)) ends

-- want of memory ends any run
pub without_memory : (asked : Option Asked) → IsDecided asked NoMemory
without_memory None = tt
without_memory (Some (CompareCommand c)) = tt
without_memory (Some (CheckCommand c)) = tt
without_memory (Some (SummaryCommand s certified)) = tt
without_memory (Some (EvalCommand e)) = tt
without_memory (Some (LoadCommand keys)) = tt
without_memory (Some (IdleCommand u)) = tt
without_memory (Some (ReachCommand s zone)) = tt
without_memory (Some (EmitCommand s)) = tt
without_memory (Some (CheckSummaryCommand k)) = tt
without_memory (Some (NewAccessCommand s second certified)) = tt
without_memory (Some (CheckNewAccessCommand k second)) = tt
without_memory (Some NewAccessUsage) = tt

pub decided : (asked : Option Asked) (r : Reading) (w : Writing) (p : Printed) (s : Status) → IsPrinted asked r p → IsWritten p w s
    → IsAccepted r.held asked → ¬ Rose r.faults_before r.faults → ¬ Rose w.faults_before w.faults → IsDecided asked s
decided asked r w p WriteFault may ends accepted calm calm_sink = absurd (calm_sink ends.0)
decided asked r w p NoMemory may ends accepted calm calm_sink = without_memory asked
decided asked r w p Holds may ends accepted calm calm_sink = subst (IsDecided asked) ends.0 (printed_decides asked r p may accepted calm)
decided asked r w p Fails may ends accepted calm calm_sink = subst (IsDecided asked) ends.0 (printed_decides asked r p may accepted calm)
decided asked r w p Refused may ends accepted calm calm_sink = subst (IsDecided asked) ends.0 (printed_decides asked r p may accepted calm)
decided asked r w p Undecided may ends accepted calm calm_sink = subst (IsDecided asked) ends.0 (printed_decides asked r p may accepted calm)
decided asked r w p Usage may ends accepted calm calm_sink = subst (IsDecided asked) ends.0 (printed_decides asked r p may accepted calm)
decided asked r w p ReadFault may ends accepted calm calm_sink = subst (IsDecided asked) ends.0 (printed_decides asked r p may accepted calm)
decided asked r w p BadProof may ends accepted calm calm_sink = subst (IsDecided asked) ends.0 (printed_decides asked r p may accepted calm)
