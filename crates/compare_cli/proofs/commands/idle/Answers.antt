use Rattle.std.proofs.Common.{◌∷◌, ℕ, List, Option, Some, option_map, refl}
use Rattle.std.specs.Prelude.{string_bytes}
use Rattle.std.proofs.lemmas.Result.{err_from_is_err_and}
use Rattle.command_words.specs.Asked.{Asked, IdleCommand, use_question_in}
use Rattle.run_inputs.specs.declared.printed.Printed.{Printed}
use Rattle.run_inputs.specs.declared.role.Role.TheVariants as role
use Rattle.run_inputs.specs.Readings.{AreRead, FileName, Reading, if_given, reading_of}
use Rattle.idle_answers.specs.UsesPrinted.{IsIdlePrinted}
use Rattle.run_inputs.specs.OneSets.{set_contents}
use Rattle.compare_cli.specs.Commands.{IsPrinted}
use Rattle.compare_cli.specs.LastFiles.{last_bytes, last_names}
use Rattle.compare_cli.proofs.Reading.{failed_end, last_read, may_print, printed_end}
use Rattle.compare_cli.proofs.commands.idle.Goals as goal

pub returns-in_err-files-clause-prints : goal.returns-in_err-files-clause-prints
returns-in_err-files-clause-prints g c =
    let arguments = c.args.arguments.now in
    let asked : Asked = IdleCommand (use_question_in arguments) in
    let last : List FileName = last_names role.Set (string_bytes arguments.set) (option_map (λ n. string_bytes n) arguments.schema) in
    let before = c.args.folder.now in
    let r : Reading = reading_of g.F.Folder.held g.F.Folder.faults g.F.Folder.last_fault g.F.Folder.asked before c.read_last.new.folder in
    let p = err_from_is_err_and c.from_residual.result c.from_residual.ensures.1 in
    rw (p.1, p.2) (failed_end asked r _ last refl last_bytes c.in_err-files.ensures.reads)

pub returns-clause-prints : goal.returns-clause-prints
returns-clause-prints g c =
    let arguments = c.args.arguments.now in
    let asked : Asked = IdleCommand (use_question_in arguments) in
    let last : List FileName = last_names role.Set (string_bytes arguments.set) (option_map (λ n. string_bytes n) arguments.schema) in
    let before = c.args.folder.now in
    let r : Reading = reading_of g.F.Folder.held g.F.Folder.faults g.F.Folder.last_fault g.F.Folder.asked before c.read_last.new.folder in
    let schema : Option (List ℕ) = option_map (λ b. b.now) c.bytes_of.result in
    let given : AreRead (g.F.Folder.held before) last (c.as_slice.result.now ∷ if_given schema) =
    last_read (g.F.Folder.held before) last c.as_slice.result.now schema c.in_ok-files.files c.as_slice.ensures.value c.bytes_of.ensures c.in_ok-files.ensures.reads.0 in
    let says : (p : Printed) → IsIdlePrinted (use_question_in arguments) (set_contents c.as_slice.result.now schema) p → IsPrinted (Some asked) r p =
    λ p v. may_print asked r c.in_ok-files.ensures.reads.1 p (record { contents = set_contents c.as_slice.result.now schema; read = given; holds = v }) in
    printed_end asked r c.in_ok-files.ensures.reads.1 c.print_idle.result _ says c.print_idle.ensures
