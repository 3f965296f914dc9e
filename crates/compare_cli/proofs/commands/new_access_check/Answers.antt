use Rattle.std.proofs.Common.{◌≤◌, ◌∷◌, ℕ, List, [], Option, Some, arith, option_map, refl, subst, sym}
use Rattle.std.specs.Prelude.{string_bytes}
use Rattle.std.proofs.lemmas.Result.{err_from_is_err_and}
use Rattle.command_words.specs.Asked.{Asked, CheckNewAccessCommand, summary_check_in}
use Rattle.run_inputs.specs.declared.printed.Printed.{Printed}
use Rattle.run_inputs.specs.declared.role.Role.TheVariants as role
use Rattle.run_inputs.specs.Files.{IsShort}
use Rattle.run_inputs.specs.Readings.{AreRead, FileName, IsCalm, Reading, file, if_given, one_content, reading_of}
use Rattle.run_inputs.proofs.FileLaws.{calm_more, failed_first, failed_later}
use Rattle.run_inputs.specs.Pairs.{contents}
use Rattle.access_answers.specs.NewAccessChecked.{IsNewAccessCheckPrinted}
use Rattle.compare_cli.specs.Commands.{IsPrinted}
use Rattle.compare_cli.specs.LastFiles.{last_bytes, last_names}
use Rattle.compare_cli.proofs.Reading.{failed_end, last_read, may_print, printed_end, rest_read}
use Rattle.compare_cli.proofs.commands.new_access_check.Goals as goal

pub returns-in_err-first-clause-prints : goal.returns-in_err-first-clause-prints
returns-in_err-first-clause-prints g c =
    let arguments = c.args.arguments.now in
    let asked : Asked = CheckNewAccessCommand (summary_check_in arguments.check) (string_bytes arguments.second) in
    let last : List FileName = last_names role.Proof (string_bytes arguments.check.proof) (option_map (λ n. string_bytes n) arguments.check.schema) in
    let before = c.args.folder.now in
    let first : FileName = file role.First (string_bytes arguments.check.set) in
    let second : FileName = file role.Second (string_bytes arguments.second) in
    let r : Reading = reading_of g.F.Folder.held g.F.Folder.faults g.F.Folder.last_fault g.F.Folder.asked before c.read_named.new.folder in
    let p = err_from_is_err_and c.from_residual.result c.from_residual.ensures.1 in
    rw (p.1, p.2) (failed_end asked r _ (first ∷ second ∷ last) refl last_bytes
    (failed_first _ (first ∷ []) (second ∷ last) r one_content last_bytes c.in_err-first.ensures.reads))

pub returns-in_err-second-clause-prints : goal.returns-in_err-second-clause-prints
returns-in_err-second-clause-prints g c =
    let arguments = c.args.arguments.now in
    let asked : Asked = CheckNewAccessCommand (summary_check_in arguments.check) (string_bytes arguments.second) in
    let last : List FileName = last_names role.Proof (string_bytes arguments.check.proof) (option_map (λ n. string_bytes n) arguments.check.schema) in
    let before = c.args.folder.now in
    let first : FileName = file role.First (string_bytes arguments.check.set) in
    let second : FileName = file role.Second (string_bytes arguments.second) in
    let r : Reading = reading_of g.F.Folder.held g.F.Folder.faults g.F.Folder.last_fault g.F.Folder.asked before c.read_named-2.new.folder in
    let here : Reading = reading_of g.F.Folder.held g.F.Folder.faults g.F.Folder.last_fault g.F.Folder.asked c.read_named.new.folder c.read_named-2.new.folder in
    let more : g.F.Folder.faults before ≤ g.F.Folder.faults c.read_named.new.folder = omega (arith, c.in_ok-first.ensures.later) in
    let p = err_from_is_err_and c.from_residual-in_err-second.result c.from_residual-in_err-second.ensures.1 in
    rw (p.1, p.2) (failed_end asked r _ (first ∷ second ∷ last) refl last_bytes
    (failed_later g.F.Folder.held g.F.Folder.faults g.F.Folder.last_fault g.F.Folder.asked before c.read_named.new.folder c.read_named-2.new.folder c.in_ok-first.ensures.held more (first ∷ []) (second ∷ last) (one_content c.in_ok-first.first) c.in_ok-first.ensures.reads.0 c.in_ok-first.ensures.reads.1 _ last_bytes last_bytes
    (failed_first _ (second ∷ []) last here one_content last_bytes c.in_err-second.ensures.reads)))

pub returns-in_err-rest-clause-prints : goal.returns-in_err-rest-clause-prints
returns-in_err-rest-clause-prints g c =
    let arguments = c.args.arguments.now in
    let asked : Asked = CheckNewAccessCommand (summary_check_in arguments.check) (string_bytes arguments.second) in
    let last : List FileName = last_names role.Proof (string_bytes arguments.check.proof) (option_map (λ n. string_bytes n) arguments.check.schema) in
    let before = c.args.folder.now in
    let first : FileName = file role.First (string_bytes arguments.check.set) in
    let second : FileName = file role.Second (string_bytes arguments.second) in
    let r : Reading = reading_of g.F.Folder.held g.F.Folder.faults g.F.Folder.last_fault g.F.Folder.asked before c.read_last.new.folder in
    let more : g.F.Folder.faults before ≤ g.F.Folder.faults c.read_named.new.folder = omega (arith, c.in_ok-first.ensures.later) in
    let still : g.F.Folder.faults c.read_named.new.folder ≤ g.F.Folder.faults c.read_named-2.new.folder = omega (arith, c.in_ok-second.ensures.later) in
    let p = err_from_is_err_and c.from_residual-in_err-rest.result c.from_residual-in_err-rest.ensures.1 in
    rw (p.1, p.2) (failed_end asked r _ (first ∷ second ∷ last) refl last_bytes
    (failed_later g.F.Folder.held g.F.Folder.faults g.F.Folder.last_fault g.F.Folder.asked before c.read_named.new.folder c.read_last.new.folder c.in_ok-first.ensures.held more (first ∷ []) (second ∷ last) (one_content c.in_ok-first.first) c.in_ok-first.ensures.reads.0 c.in_ok-first.ensures.reads.1 _ last_bytes last_bytes
    (failed_later g.F.Folder.held g.F.Folder.faults g.F.Folder.last_fault g.F.Folder.asked c.read_named.new.folder c.read_named-2.new.folder c.read_last.new.folder c.in_ok-second.ensures.held still (second ∷ []) last (one_content c.in_ok-second.second) c.in_ok-second.ensures.reads.0 c.in_ok-second.ensures.reads.1 _ last_bytes last_bytes c.in_err-rest.ensures.reads)))

pub returns-clause-prints : goal.returns-clause-prints
returns-clause-prints g c =
    let arguments = c.args.arguments.now in
    let asked : Asked = CheckNewAccessCommand (summary_check_in arguments.check) (string_bytes arguments.second) in
    let last : List FileName = last_names role.Proof (string_bytes arguments.check.proof) (option_map (λ n. string_bytes n) arguments.check.schema) in
    let before = c.args.folder.now in
    let first : FileName = file role.First (string_bytes arguments.check.set) in
    let second : FileName = file role.Second (string_bytes arguments.second) in
    let r : Reading = reading_of g.F.Folder.held g.F.Folder.faults g.F.Folder.last_fault g.F.Folder.asked before c.read_last.new.folder in
    let schema : Option (List ℕ) = option_map (λ b. b.now) c.bytes_of.result in
    let short_first : IsShort (g.F.Folder.held before) first.role first.name c.as_slice.result.now =
    subst (λ (bs : List ℕ). IsShort (g.F.Folder.held before) first.role first.name bs) (sym c.as_slice.ensures.value) c.in_ok-first.ensures.reads.0.0 in
    let short_second : IsShort (g.F.Folder.held c.read_named.new.folder) second.role second.name c.as_slice-2.result.now =
    subst (λ (bs : List ℕ). IsShort (g.F.Folder.held c.read_named.new.folder) second.role second.name bs) (sym c.as_slice-2.ensures.value) c.in_ok-second.ensures.reads.0.0 in
    let given : AreRead (g.F.Folder.held c.read_named.new.folder) last (c.as_slice-3.result.now ∷ if_given schema) =
    rest_read (g.F.Folder.held c.read_named.new.folder) (g.F.Folder.held c.read_named-2.new.folder) c.in_ok-second.ensures.held last (c.as_slice-3.result.now ∷ if_given schema)
    (last_read (g.F.Folder.held c.read_named-2.new.folder) last c.as_slice-3.result.now schema c.in_ok-rest.rest c.as_slice-3.ensures.value c.bytes_of.ensures c.in_ok-rest.ensures.reads.0) in
    let behind : AreRead (g.F.Folder.held before) (second ∷ last) (c.as_slice-2.result.now ∷ c.as_slice-3.result.now ∷ if_given schema) =
    rest_read (g.F.Folder.held before) (g.F.Folder.held c.read_named.new.folder) c.in_ok-first.ensures.held (second ∷ last) (c.as_slice-2.result.now ∷ c.as_slice-3.result.now ∷ if_given schema) (short_second, given) in
    let calm : IsCalm (first ∷ second ∷ last) r =
    calm_more g.F.Folder.held g.F.Folder.faults g.F.Folder.last_fault g.F.Folder.asked before c.read_named.new.folder c.read_last.new.folder (first ∷ []) (second ∷ last) c.in_ok-first.ensures.reads.1
    (calm_more g.F.Folder.held g.F.Folder.faults g.F.Folder.last_fault g.F.Folder.asked c.read_named.new.folder c.read_named-2.new.folder c.read_last.new.folder (second ∷ []) last c.in_ok-second.ensures.reads.1 c.in_ok-rest.ensures.reads.1) in
    let says : (p : Printed) → IsNewAccessCheckPrinted (summary_check_in arguments.check) c.as_slice-3.result.now (contents c.as_slice.result.now c.as_slice-2.result.now schema) p → IsPrinted (Some asked) r p =
    λ p v. may_print asked r calm p (record { contents = record { sets = contents c.as_slice.result.now c.as_slice-2.result.now schema; proof = c.as_slice-3.result.now }; read = (short_first, behind); holds = v }) in
    printed_end asked r calm c.print_new_access_check.result _ says c.print_new_access_check.ensures
