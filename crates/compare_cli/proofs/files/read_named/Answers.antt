use Rattle.std.proofs.Common.{◌∷◌, ℕ, List, [], subst}
use Rattle.run_inputs.specs.Readings.{AreFilesRead, Reading, file, one_content, reading_of}
use Rattle.compare_cli.proofs.files.read_named.Goals as goal

pub returns-clause-reads : goal.returns-clause-reads
returns-clause-reads g c =
    let r : Reading = reading_of g.F.Folder.held g.F.Folder.faults g.F.Folder.last_fault g.F.Folder.asked c.args.folder.now c.read_file.new.folder in
    subst (λ (n : List ℕ). AreFilesRead (file c.args.role n ∷ []) one_content r c.read_file.result) c.as_str.ensures.value c.read_file.ensures.reads
