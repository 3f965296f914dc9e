use Rattle.std.proofs.Common.{◌∙◌, ◌+◌, ap, length}
use Rattle.std.proofs.lemmas.Result.{err_from_is_err_and}
use Rattle.refute_check.specs.Proofs.{proof_of}
use Rattle.proof_text.specs.LineForms.{ExpectVersion}
use Rattle.proof_text.specs.Spelling.{proof_lines}
use Rattle.proof_text.specs.declared.limits.Limits.{Limits}
use Rattle.proof_text.proofs.Taking.{end-refused}
use Rattle.proof_text.proofs.Whole.{end-fails, few-nodes, node-starts, read-refused, starts-size, version-fails, version-refused, version-takes, whole-none, whole-spelled}
use Rattle.proof_text.proofs.read.read_at.Goals as goal

pub returns-in_err-line-clause-read : goal.returns-in_err-line-clause-read
returns-in_err-line-clause-read c =
    let limits : Limits = c.args.limits in
    let p = err_from_is_err_and c.from_residual.result c.from_residual.ensures.1 in
    rw (p.1, p.2) (read-refused limits c.args.start _ (end-refused limits ExpectVersion c.args.start _ c.in_err-line.ensures))

pub returns-in-Err-clause-read : goal.returns-in-Err-clause-read
returns-in-Err-clause-read c =
    let limits : Limits = c.args.limits in
    version-refused limits c.args.start c.in_ok-line.behind c.in_ok-line.line.now c.in-Err.answer c.answer_here.result c.requires.first c.in_ok-line.ensures c.in-Err.ensures c.answer_here.ensures

pub returns-in_err-refutation-clause-read : goal.returns-in_err-refutation-clause-read
returns-in_err-refutation-clause-read c =
    let limits : Limits = c.args.limits in
    let p = err_from_is_err_and c.from_residual-in_err-refutation.result c.from_residual-in_err-refutation.ensures.1 in
    rw (p.1, p.2) (version-fails limits c.args.start c.in_ok-line.behind c.in_ok-line.line.now c.in_default.field-0 c.new.result.items _ c.requires.first c.in_ok-line.ensures c.in_default.ensures c.new.ensures.items c.in_err-refutation.ensures.read)

pub returns-in_err-require_end-clause-read : goal.returns-in_err-require_end-clause-read
returns-in_err-require_end-clause-read c =
    let limits : Limits = c.args.limits in
    let takes = version-takes limits c.args.start c.in_ok-line.behind c.in_ok-refutation.end c.in_ok-line.line.now c.in_default.field-0 c.new.result.items (proof_of c.in_ok-refutation.refutation.value) c.requires.first c.in_ok-line.ensures c.in_default.ensures c.new.ensures.items c.in_ok-refutation.ensures.read in
    let p = err_from_is_err_and c.from_residual-in_err-require_end.result c.from_residual-in_err-require_end.ensures.1 in
    rw (p.1, p.2) (end-fails limits c.args.start c.in_ok-refutation.end (proof_lines limits.version (proof_of c.in_ok-refutation.refutation.value)) _ takes c.in_err-require_end.ensures)

pub returns-clause-read : goal.returns-clause-read
returns-clause-read c =
    let limits : Limits = c.args.limits in
    let takes = version-takes limits c.args.start c.in_ok-line.behind c.in_ok-refutation.end c.in_ok-line.line.now c.in_default.field-0 c.new.result.items (proof_of c.in_ok-refutation.refutation.value) c.requires.first c.in_ok-line.ensures c.in_default.ensures c.new.ensures.items c.in_ok-refutation.ensures.read in
    let p = proof_of c.in_ok-refutation.refutation.value in
    record {
      faultless = whole-none limits c.args.start c.in_ok-refutation.end (proof_lines limits.version p) takes c.in_ok-require_end.ensures;
      spelled = whole-spelled limits limits.version c.args.start c.in_ok-refutation.end p takes c.in_ok-require_end.ensures;
      small = takes.small;
      lines = node-starts limits c.args.start c.in_ok-line.behind c.in_ok-line.line.now c.new-2.result c.read_node.new.trail.lines p c.in_ok-line.ensures c.new-2.ensures c.in_ok-refutation.ensures.lines;
    }

pub returns-clause-nodes : goal.returns-clause-nodes
returns-clause-nodes c =
    let limits : Limits = c.args.limits in
    let takes = version-takes limits c.args.start c.in_ok-line.behind c.in_ok-refutation.end c.in_ok-line.line.now c.in_default.field-0 c.new.result.items (proof_of c.in_ok-refutation.refutation.value) c.requires.first c.in_ok-line.ensures c.in_default.ensures c.new.ensures.items c.in_ok-refutation.ensures.read in
    let p = proof_of c.in_ok-refutation.refutation.value in
    let spelled = whole-spelled limits limits.version c.args.start c.in_ok-refutation.end p takes c.in_ok-require_end.ensures in
    let lines = node-starts limits c.args.start c.in_ok-line.behind c.in_ok-line.line.now c.new-2.result c.read_node.new.trail.lines p c.in_ok-line.ensures c.new-2.ensures c.in_ok-refutation.ensures.lines in
    (ap length lines ∙ starts-size (c.args.start.number + 1) p, few-nodes limits.version c.args.start.bytes.now p spelled)
