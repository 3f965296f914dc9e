use Rattle.std.proofs.Common.{◌≤◌, ◌∷◌, ℕ, List, [], Option, arith, option_map}
use Rattle.std.specs.Prelude.{string_bytes}
use Rattle.std.proofs.lemmas.Result.{err_from_is_err_and}
use Rattle.run_inputs.specs.declared.role.Role.TheVariants as role
use Rattle.run_inputs.specs.Readings.{FileName, Reading, content_if_given, file, if_named, one_content, reading_of}
use Rattle.run_inputs.proofs.FileLaws.{calm_more, failed_first, failed_later, read_more}
use Rattle.compare_cli.specs.LastFiles.{last_bytes}
use Rattle.compare_cli.proofs.files.read_last.Goals as goal

pub returns-in_err-file-clause-reads : goal.returns-in_err-file-clause-reads
returns-in_err-file-clause-reads g c =
    let first : FileName = file c.args.role (string_bytes c.args.name.now) in
    let schema : Option (List ℕ) = option_map (λ n. string_bytes n) c.args.schema.now in
    let r : Reading = reading_of g.F.Folder.held g.F.Folder.faults g.F.Folder.last_fault g.F.Folder.asked c.args.folder.now c.read_named.new.folder in
    let p = err_from_is_err_and c.from_residual.result c.from_residual.ensures.1 in
    rw (p.1, p.2) (failed_first _ (first ∷ []) (if_named role.Schema schema) r one_content last_bytes c.in_err-file.ensures.reads)

pub returns-in_err-schema-clause-reads : goal.returns-in_err-schema-clause-reads
returns-in_err-schema-clause-reads g c =
    let first : FileName = file c.args.role (string_bytes c.args.name.now) in
    let schema : Option (List ℕ) = option_map (λ n. string_bytes n) c.args.schema.now in
    let before = c.args.folder.now in
    let more : g.F.Folder.faults before ≤ g.F.Folder.faults c.read_named.new.folder = omega (arith, c.in_ok-file.ensures.later) in
    let p = err_from_is_err_and c.from_residual-in_err-schema.result c.from_residual-in_err-schema.ensures.1 in
    rw (p.1, p.2) (failed_later g.F.Folder.held g.F.Folder.faults g.F.Folder.last_fault g.F.Folder.asked before c.read_named.new.folder c.read_if_named.new.folder c.in_ok-file.ensures.held more (first ∷ []) (if_named role.Schema schema) (one_content c.in_ok-file.file) c.in_ok-file.ensures.reads.0 c.in_ok-file.ensures.reads.1 _ content_if_given last_bytes c.in_err-schema.ensures.reads)

pub returns-clause-reads : goal.returns-clause-reads
returns-clause-reads g c =
    let first : FileName = file c.args.role (string_bytes c.args.name.now) in
    let schema : Option (List ℕ) = option_map (λ n. string_bytes n) c.args.schema.now in
    let before = c.args.folder.now in
    let middle = c.read_named.new.folder in (
      read_more g.F.Folder.held g.F.Folder.faults g.F.Folder.last_fault g.F.Folder.asked before middle c.in_ok-file.ensures.held (first ∷ []) (if_named role.Schema schema) (one_content c.in_ok-file.file) (content_if_given c.in_ok-schema.schema) c.in_ok-file.ensures.reads.0 c.in_ok-schema.ensures.reads.0,
      calm_more g.F.Folder.held g.F.Folder.faults g.F.Folder.last_fault g.F.Folder.asked before middle c.read_if_named.new.folder (first ∷ []) (if_named role.Schema schema) c.in_ok-file.ensures.reads.1 c.in_ok-schema.ensures.reads.1,
    )
