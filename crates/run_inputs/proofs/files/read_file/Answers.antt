use Rattle.std.proofs.Common.{◌∷◌, []}
use Rattle.std.proofs.lemmas.Result.{err_from_is_err_and}
use Rattle.run_inputs.specs.Readings.{FileName, Reading, file, one_content, reading_of}
use Rattle.run_inputs.proofs.FileLaws.{stopped_still, take_failed, take_too_long, take_unread}
use Rattle.run_inputs.proofs.files.read_file.Goals as goal

pub returns-in_err-fault-clause-reads : goal.returns-in_err-fault-clause-reads
returns-in_err-fault-clause-reads g c =
    let f : FileName = file c.args.role c.args.name.now in
    let p = err_from_is_err_and c.from_residual.result c.from_residual.ensures.1 in
    rw (p.1, p.2) (stopped_still g.F.Folder.held g.F.Folder.faults g.F.Folder.last_fault g.F.Folder.asked c.args.folder.now (f ∷ []))

pub returns-in-Err-Failed-clause-reads : goal.returns-in-Err-Failed-clause-reads
returns-in-Err-Failed-clause-reads g c =
    let f : FileName = file c.args.role c.args.name.now in
    let r : Reading = reading_of g.F.Folder.held g.F.Folder.faults g.F.Folder.last_fault g.F.Folder.asked c.args.folder.now c.take.new.self in
    take_failed f r c.in_ok-fault.fault c.in-Err-Failed.field-0 c.in-Err-Failed.field-0-is c.in-Err-Failed.ensures.cause c.in-Err-Failed.ensures.asks c.in_ok-fault.ensures

pub returns-in-Err-TooLong-clause-reads : goal.returns-in-Err-TooLong-clause-reads
returns-in-Err-TooLong-clause-reads g c =
    let f : FileName = file c.args.role c.args.name.now in
    let r : Reading = reading_of g.F.Folder.held g.F.Folder.faults g.F.Folder.last_fault g.F.Folder.asked c.args.folder.now c.take.new.self in
    take_too_long f r c.limit_of.result _ _ c.in-Err-TooLong.field-0 c.in-Err-TooLong.field-0-is c.limit_of.ensures c.in-Err-TooLong.ensures.given
    c.in-Err-TooLong.ensures.cause c.in-Err-TooLong.ensures.asks c.too_long.result one_content c.too_long.ensures

pub returns-in-Err-NoMemory-clause-reads : goal.returns-in-Err-NoMemory-clause-reads
returns-in-Err-NoMemory-clause-reads g c =
    let f : FileName = file c.args.role c.args.name.now in
    let r : Reading = reading_of g.F.Folder.held g.F.Folder.faults g.F.Folder.last_fault g.F.Folder.asked c.args.folder.now c.take.new.self in
    take_unread f r c.in-Err-NoMemory.field-0 c.in-Err-NoMemory.field-0-is c.in-Err-NoMemory.ensures.cause c.in-Err-NoMemory.ensures.asks
