use Rattle.std.proofs.Common.{Ok, refl}
use Rattle.command_words.specs.Asked.{asked_by}
use Rattle.run_inputs.specs.Readings.{Reading, reading_of}
use Rattle.run_inputs.proofs.FileLaws.{printed_so}
use Rattle.compare_cli.specs.Commands.{IsPrinted}
use Rattle.compare_cli.proofs.Deciding.{printed_of_text}
use Rattle.compare_cli.proofs.Reading.{prints_end, stopped_end}
use Rattle.compare_cli.proofs.Writing.{decided, promised, usage_only, without_memory}
use Rattle.compare_cli.proofs.top.run.Goals as goal

pub write-requires : goal.write-requires
write-requires g c =
    let r : Reading = reading_of g.F.Folder.held g.F.Folder.faults g.F.Folder.last_fault g.F.Folder.asked c.args.folder.now c.print.new.folder in
    let may = printed_so c.print.result (Ok c.in-Ok.printed) (IsPrinted (asked_by c.args.arguments.now) r) c.in-Ok.ensures (prints_end (asked_by c.args.arguments.now) r c.print.result c.print.ensures.prints) in
    printed_of_text (asked_by c.args.arguments.now) r c.in-Ok.printed may

pub returns-in-Ok-clause-promises : goal.returns-in-Ok-clause-promises
returns-in-Ok-clause-promises g c =
    let r : Reading = reading_of g.F.Folder.held g.F.Folder.faults g.F.Folder.last_fault g.F.Folder.asked c.args.folder.now c.print.new.folder in
    let may = printed_so c.print.result (Ok c.in-Ok.printed) (IsPrinted (asked_by c.args.arguments.now) r) c.in-Ok.ensures (prints_end (asked_by c.args.arguments.now) r c.print.result c.print.ensures.prints) in
    promised (asked_by c.args.arguments.now) r _ c.in-Ok.printed c.write.result may c.write.ensures.written

pub returns-in-Ok-clause-usage : goal.returns-in-Ok-clause-usage
returns-in-Ok-clause-usage g c = λ none.
    let r : Reading = reading_of g.F.Folder.held g.F.Folder.faults g.F.Folder.last_fault g.F.Folder.asked c.args.folder.now c.print.new.folder in
    let may = printed_so c.print.result (Ok c.in-Ok.printed) (IsPrinted (asked_by c.args.arguments.now) r) c.in-Ok.ensures (prints_end (asked_by c.args.arguments.now) r c.print.result c.print.ensures.prints) in
    usage_only (asked_by c.args.arguments.now) r _ c.in-Ok.printed c.write.result may c.write.ensures.written none

pub returns-in-Ok-clause-complete : goal.returns-in-Ok-clause-complete
returns-in-Ok-clause-complete g c = λ accepted calm calm_sink.
    let r : Reading = reading_of g.F.Folder.held g.F.Folder.faults g.F.Folder.last_fault g.F.Folder.asked c.args.folder.now c.print.new.folder in
    let may = printed_so c.print.result (Ok c.in-Ok.printed) (IsPrinted (asked_by c.args.arguments.now) r) c.in-Ok.ensures (prints_end (asked_by c.args.arguments.now) r c.print.result c.print.ensures.prints) in
    decided (asked_by c.args.arguments.now) r _ c.in-Ok.printed c.write.result may c.write.ensures.written accepted calm calm_sink

pub returns-in-Err-clause-complete : goal.returns-in-Err-clause-complete
returns-in-Err-clause-complete g c = λ accepted calm calm_sink. without_memory (asked_by c.args.arguments.now)

pub returns-in-Err-clause-promises : goal.returns-in-Err-clause-promises
returns-in-Err-clause-promises g c =
    let r : Reading = reading_of g.F.Folder.held g.F.Folder.faults g.F.Folder.last_fault g.F.Folder.asked c.args.folder.now c.print.new.folder in
    (refl, stopped_end (asked_by c.args.arguments.now) r c.print.result _ c.in-Err.ensures c.print.ensures.prints)
