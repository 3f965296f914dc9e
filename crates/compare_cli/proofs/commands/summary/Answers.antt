use Rattle.std.proofs.Common.{◌∷◌, ℕ, List, Bool, Option, Some, option_map, refl, subst, sym}
use Rattle.std.specs.Prelude.{string_bytes}
use Rattle.std.proofs.lemmas.Result.{err_from_is_err_and}
use Rattle.command_words.specs.Asked.{Asked, SummaryCommand, summarising_in}
use Rattle.run_inputs.specs.declared.printed.Printed.{Printed}
use Rattle.run_inputs.specs.declared.role.Role.TheVariants as role
use Rattle.run_inputs.specs.Readings.{AreRead, FileName, Reading, if_given, reading_of}
use Rattle.run_inputs.specs.OneSets.{set_contents}
use Rattle.summary_answers.specs.Printed.{IsSummaryPrinted}
use Rattle.certified_summaries.specs.Certified.{IsCertifiedSummaryPrinted}
use Rattle.compare_cli.specs.Commands.{IsPrinted, IsSummaryPrintedFrom}
use Rattle.compare_cli.specs.LastFiles.{last_bytes, last_names}
use Rattle.compare_cli.proofs.Reading.{failed_end, last_read, may_print, printed_end}
use Rattle.compare_cli.proofs.commands.summary.Goals as goal

pub returns-in_err-files-clause-prints : goal.returns-in_err-files-clause-prints
returns-in_err-files-clause-prints g c =
    let arguments = c.args.arguments.now in
    let asked : Asked = SummaryCommand (summarising_in arguments.summary) arguments.certified in
    let last : List FileName = last_names role.Set (string_bytes arguments.summary.set) (option_map (λ n. string_bytes n) arguments.summary.schema) in
    let before = c.args.folder.now in
    let r : Reading = reading_of g.F.Folder.held g.F.Folder.faults g.F.Folder.last_fault g.F.Folder.asked before c.read_last.new.folder in
    let p = err_from_is_err_and c.from_residual.result c.from_residual.ensures.1 in
    rw (p.1, p.2) (failed_end asked r _ last refl last_bytes c.in_err-files.ensures.reads)

pub returns-then-arguments-clause-prints : goal.returns-then-arguments-clause-prints
returns-then-arguments-clause-prints g c =
    let arguments = c.args.arguments.now in
    let asked : Asked = SummaryCommand (summarising_in arguments.summary) arguments.certified in
    let last : List FileName = last_names role.Set (string_bytes arguments.summary.set) (option_map (λ n. string_bytes n) arguments.summary.schema) in
    let before = c.args.folder.now in
    let r : Reading = reading_of g.F.Folder.held g.F.Folder.faults g.F.Folder.last_fault g.F.Folder.asked before c.read_last.new.folder in
    let schema : Option (List ℕ) = option_map (λ b. b.now) c.bytes_of.result in
    let given : AreRead (g.F.Folder.held before) last (c.as_slice-set.result.now ∷ if_given schema) =
    last_read (g.F.Folder.held before) last c.as_slice-set.result.now schema c.in_ok-files.files c.as_slice-set.ensures.value c.bytes_of.ensures c.in_ok-files.ensures.reads.0 in
    let says : (p : Printed) → IsCertifiedSummaryPrinted (summarising_in arguments.summary) (set_contents c.as_slice-set.result.now schema) p → IsPrinted (Some asked) r p =
    λ p v. may_print asked r c.in_ok-files.ensures.reads.1 p (record { contents = set_contents c.as_slice-set.result.now schema; read = given; holds = subst (λ (b : Bool). IsSummaryPrintedFrom (summarising_in arguments.summary) b (set_contents c.as_slice-set.result.now schema) p) (sym c.if-arguments.true) v }) in
    printed_end asked r c.in_ok-files.ensures.reads.1 c.print_certified_summary.result _ says c.print_certified_summary.ensures

pub returns-clause-prints : goal.returns-clause-prints
returns-clause-prints g c =
    let arguments = c.args.arguments.now in
    let asked : Asked = SummaryCommand (summarising_in arguments.summary) arguments.certified in
    let last : List FileName = last_names role.Set (string_bytes arguments.summary.set) (option_map (λ n. string_bytes n) arguments.summary.schema) in
    let before = c.args.folder.now in
    let r : Reading = reading_of g.F.Folder.held g.F.Folder.faults g.F.Folder.last_fault g.F.Folder.asked before c.read_last.new.folder in
    let schema : Option (List ℕ) = option_map (λ b. b.now) c.bytes_of-else-arguments.result in
    let given : AreRead (g.F.Folder.held before) last (c.as_slice-set.result.now ∷ if_given schema) =
    last_read (g.F.Folder.held before) last c.as_slice-set.result.now schema c.in_ok-files.files c.as_slice-set.ensures.value c.bytes_of-else-arguments.ensures c.in_ok-files.ensures.reads.0 in
    let says : (p : Printed) → IsSummaryPrinted (summarising_in arguments.summary) (set_contents c.as_slice-set.result.now schema) p → IsPrinted (Some asked) r p =
    λ p v. may_print asked r c.in_ok-files.ensures.reads.1 p (record { contents = set_contents c.as_slice-set.result.now schema; read = given; holds = subst (λ (b : Bool). IsSummaryPrintedFrom (summarising_in arguments.summary) b (set_contents c.as_slice-set.result.now schema) p) (sym c.if-arguments.false) v }) in
    printed_end asked r c.in_ok-files.ensures.reads.1 c.print_summary.result _ says c.print_summary.ensures
