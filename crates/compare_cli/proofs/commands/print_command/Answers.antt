use Rattle.std.proofs.Common.{Some, subst, sym}
use Rattle.command_words.specs.Asked.{LoadCommand, NewAccessUsage, asked_in}
use Rattle.command_words.specs.declared.asked.Command.{Command}
use Rattle.run_inputs.specs.Readings.{Reading, reading_of}
use Rattle.run_inputs.proofs.FileLaws.{calm_still}
use Rattle.compare_cli.specs.Commands.{IsCommandEnd}
use Rattle.compare_cli.proofs.Reading.{may_print, printed_end}
use Rattle.compare_cli.proofs.commands.print_command.Goals as goal

pub returns-in-Load-clause-prints : goal.returns-in-Load-clause-prints
returns-in-Load-clause-prints g c =
    let r : Reading = reading_of g.F.Folder.held g.F.Folder.faults g.F.Folder.last_fault g.F.Folder.asked c.args.folder.now c.args.folder.now in
    let calm = calm_still g.F.Folder.held g.F.Folder.faults g.F.Folder.last_fault g.F.Folder.asked c.args.folder.now in
    let loaded = printed_end (LoadCommand c.in-Load.keys) r calm c.print_load.result _ (λ p v. may_print (LoadCommand c.in-Load.keys) r calm p v) c.print_load.ensures in
    subst (λ (command : Command). IsCommandEnd (Some (asked_in command)) r c.print_load.result) (sym c.in-Load.is) loaded

pub returns-in-MisusedNewAccess-clause-prints : goal.returns-in-MisusedNewAccess-clause-prints
returns-in-MisusedNewAccess-clause-prints g c =
    let r : Reading = reading_of g.F.Folder.held g.F.Folder.faults g.F.Folder.last_fault g.F.Folder.asked c.args.folder.now c.args.folder.now in
    let calm = calm_still g.F.Folder.held g.F.Folder.faults g.F.Folder.last_fault g.F.Folder.asked c.args.folder.now in
    let told = printed_end NewAccessUsage r calm c.new_access_usage.result _ (λ p v. may_print NewAccessUsage r calm p v) c.new_access_usage.ensures in
    subst (λ (command : Command). IsCommandEnd (Some (asked_in command)) r c.new_access_usage.result) (sym c.in-MisusedNewAccess.is) told
