use Rattle.std.proofs.Common.{◌≤◌, ◌∷◌, ℕ, List, [], Option, Some, arith, option_map, refl, subst, sym}
use Rattle.std.specs.Prelude.{string_bytes}
use Rattle.std.proofs.lemmas.Result.{err_from_is_err_and}
use Rattle.command_words.specs.Asked.{Asked, NewAccessCommand, summarising_in}
use Rattle.run_inputs.specs.declared.printed.Printed.{Printed}
use Rattle.run_inputs.specs.declared.role.Role.TheVariants as role
use Rattle.run_inputs.specs.Files.{IsShort}
use Rattle.run_inputs.specs.Readings.{AreRead, FileName, IsCalm, Reading, file, if_given, one_content, reading_of}
use Rattle.run_inputs.proofs.FileLaws.{calm_more, failed_first, failed_later}
use Rattle.run_inputs.specs.Pairs.{contents}
use Rattle.access_answers.specs.NewAccessPrinted.{IsNewAccessPrinted}
use Rattle.compare_cli.specs.Commands.{IsPrinted}
use Rattle.compare_cli.specs.LastFiles.{last_bytes, last_names}
use Rattle.compare_cli.proofs.Reading.{failed_end, last_read, may_print, printed_end, rest_read}
use Rattle.compare_cli.proofs.commands.new_access.Goals as goal

pub returns-in_err-first-clause-prints : goal.returns-in_err-first-clause-prints
returns-in_err-first-clause-prints g c =
    let arguments = c.args.arguments.now in
    let asked : Asked = NewAccessCommand (summarising_in arguments.summary) (string_bytes arguments.second) arguments.certified in
    let last : List FileName = last_names role.Second (string_bytes arguments.second) (option_map (λ n. string_bytes n) arguments.summary.schema) in
    let before = c.args.folder.now in
    let first : FileName = file role.First (string_bytes arguments.summary.set) in
    let r : Reading = reading_of g.F.Folder.held g.F.Folder.faults g.F.Folder.last_fault g.F.Folder.asked before c.read_named.new.folder in
    let p = err_from_is_err_and c.from_residual.result c.from_residual.ensures.1 in
    rw (p.1, p.2) (failed_end asked r _ (first ∷ last) refl last_bytes
    (failed_first _ (first ∷ []) last r one_content last_bytes c.in_err-first.ensures.reads))

pub returns-in_err-rest-clause-prints : goal.returns-in_err-rest-clause-prints
returns-in_err-rest-clause-prints g c =
    let arguments = c.args.arguments.now in
    let asked : Asked = NewAccessCommand (summarising_in arguments.summary) (string_bytes arguments.second) arguments.certified in
    let last : List FileName = last_names role.Second (string_bytes arguments.second) (option_map (λ n. string_bytes n) arguments.summary.schema) in
    let before = c.args.folder.now in
    let first : FileName = file role.First (string_bytes arguments.summary.set) in
    let r : Reading = reading_of g.F.Folder.held g.F.Folder.faults g.F.Folder.last_fault g.F.Folder.asked before c.read_last.new.folder in
    let more : g.F.Folder.faults before ≤ g.F.Folder.faults c.read_named.new.folder = omega (arith, c.in_ok-first.ensures.later) in
    let p = err_from_is_err_and c.from_residual-in_err-rest.result c.from_residual-in_err-rest.ensures.1 in
    rw (p.1, p.2) (failed_end asked r _ (first ∷ last) refl last_bytes
    (failed_later g.F.Folder.held g.F.Folder.faults g.F.Folder.last_fault g.F.Folder.asked before c.read_named.new.folder c.read_last.new.folder c.in_ok-first.ensures.held more (first ∷ []) last (one_content c.in_ok-first.first) c.in_ok-first.ensures.reads.0 c.in_ok-first.ensures.reads.1 _ last_bytes last_bytes c.in_err-rest.ensures.reads))

pub returns-clause-prints : goal.returns-clause-prints
returns-clause-prints g c =
    let arguments = c.args.arguments.now in
    let asked : Asked = NewAccessCommand (summarising_in arguments.summary) (string_bytes arguments.second) arguments.certified in
    let last : List FileName = last_names role.Second (string_bytes arguments.second) (option_map (λ n. string_bytes n) arguments.summary.schema) in
    let before = c.args.folder.now in
    let first : FileName = file role.First (string_bytes arguments.summary.set) in
    let r : Reading = reading_of g.F.Folder.held g.F.Folder.faults g.F.Folder.last_fault g.F.Folder.asked before c.read_last.new.folder in
    let schema : Option (List ℕ) = option_map (λ b. b.now) c.bytes_of.result in
    let short : IsShort (g.F.Folder.held before) first.role first.name c.as_slice.result.now =
    subst (λ (bs : List ℕ). IsShort (g.F.Folder.held before) first.role first.name bs) (sym c.as_slice.ensures.value) c.in_ok-first.ensures.reads.0.0 in
    let given : AreRead (g.F.Folder.held before) last (c.as_slice-2.result.now ∷ if_given schema) =
    rest_read (g.F.Folder.held before) (g.F.Folder.held c.read_named.new.folder) c.in_ok-first.ensures.held last (c.as_slice-2.result.now ∷ if_given schema)
    (last_read (g.F.Folder.held c.read_named.new.folder) last c.as_slice-2.result.now schema c.in_ok-rest.rest c.as_slice-2.ensures.value c.bytes_of.ensures c.in_ok-rest.ensures.reads.0) in
    let calm : IsCalm (first ∷ last) r =
    calm_more g.F.Folder.held g.F.Folder.faults g.F.Folder.last_fault g.F.Folder.asked before c.read_named.new.folder c.read_last.new.folder (first ∷ []) last c.in_ok-first.ensures.reads.1 c.in_ok-rest.ensures.reads.1 in
    let says : (p : Printed) → IsNewAccessPrinted (summarising_in arguments.summary) arguments.certified (contents c.as_slice.result.now c.as_slice-2.result.now schema) p → IsPrinted (Some asked) r p =
    λ p v. may_print asked r calm p (record { contents = contents c.as_slice.result.now c.as_slice-2.result.now schema; read = (short, given); holds = v }) in
    printed_end asked r calm c.print_new_access.result _ says c.print_new_access.ensures
