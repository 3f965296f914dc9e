use Rattle.std.proofs.Common.{◌≡◌, ◌∙◌, Option, None, Some, ap, option_map, refl, rules, subst, sym}
use Rattle.std.specs.Prelude.{string_bytes}
use Rattle.std.proofs.lemmas.Result.{err_from_is_err_and}
use Rattle.command_words.specs.Asked.{Asked, asked_by, asked_in}
use Rattle.run_inputs.specs.declared.printed.Printed.{Printed}
use Rattle.run_inputs.specs.declared.status.Status.TheVariants as status
use Rattle.run_inputs.specs.Readings.{Reading, reading_of}
use Rattle.run_inputs.proofs.FileLaws.{calm_still, stopped_still}
use Rattle.compare_cli.specs.Commands.{IsCommandEnd, IsPrinted, files_named, usage_line}
use Rattle.compare_cli.proofs.top.print.Goals as goal

pub returns-in_err-command-clause-prints : goal.returns-in_err-command-clause-prints
returns-in_err-command-clause-prints g c =
    let p = err_from_is_err_and c.from_residual.result c.from_residual.ensures.1 in
    rw (p.1, p.2) (stopped_still g.F.Folder.held g.F.Folder.faults g.F.Folder.last_fault g.F.Folder.asked c.args.folder.now (files_named (asked_by c.args.arguments.now)))

pub returns-in_err-from_str-in-None-clause-prints : goal.returns-in_err-from_str-in-None-clause-prints
returns-in_err-from_str-in-None-clause-prints g c =
    let p = err_from_is_err_and c.from_residual-in_err-from_str-in-None.result c.from_residual-in_err-from_str-in-None.ensures.1 in
    rw (p.1, p.2) (stopped_still g.F.Folder.held g.F.Folder.faults g.F.Folder.last_fault g.F.Folder.asked c.args.folder.now (files_named (asked_by c.args.arguments.now)))

pub returns-in-Some-clause-prints : goal.returns-in-Some-clause-prints
returns-in-Some-clause-prints g c =
    let is : asked_by c.args.arguments.now ≡ Some (asked_in c.in-Some.command) = sym c.in_ok-command.ensures.value ∙ ap (option_map asked_in) c.in-Some.is in
    let r : Reading = reading_of g.F.Folder.held g.F.Folder.faults g.F.Folder.last_fault g.F.Folder.asked c.args.folder.now c.print_command.new.folder in
    subst (λ (asked : Option Asked). IsCommandEnd asked r c.print_command.result) (sym is) c.print_command.ensures.prints

pub returns-in_ok-from_str-in-None-clause-prints : goal.returns-in_ok-from_str-in-None-clause-prints
returns-in_ok-from_str-in-None-clause-prints g c =
    let is : asked_by c.args.arguments.now ≡ None = sym c.in_ok-command.ensures.value ∙ ap (option_map asked_in) c.in-None.is in
    let r : Reading = reading_of g.F.Folder.held g.F.Folder.faults g.F.Folder.last_fault g.F.Folder.asked c.args.folder.now c.args.folder.now in
    let p : Printed = record { text = c.in_ok-from_str-in-None.field-0; status = status.Usage } in
    let text : string_bytes c.in_ok-from_str-in-None.field-0 ≡ usage_line = search rules in
    subst (λ (asked : Option Asked). IsPrinted asked r p) (sym is) ((text, refl), calm_still g.F.Folder.held g.F.Folder.faults g.F.Folder.last_fault g.F.Folder.asked c.args.folder.now)
