use Rattle.std.proofs.Common.{◌≡◌, ◌+◌, get_or, None, arith, ap, ◌∙◌}
use Rattle.policy_model.specs.StatementNames.{named_statements}
use Rattle.policy_eval.specs.Deciding.{FirstIs}
use Rattle.policy_model.specs.declared.set.Document.{Document}
use Rattle.policy_eval.proofs.Firsts.{document-passed, documents-left, first-none}
use Rattle.policy_eval.proofs.first.first_of_documents.Goals as goal

pub loop-i-init : goal.loop-i-init
loop-i-init c = λ o first. let e : c.args.from + 0 ≡ c.args.from = omega arith in rw e at first

pub loop-i-preserved : goal.loop-i-preserved
loop-i-preserved c =
    let x = c.index-documents-i.result in
    let none : FirstIs c.args.schema.now c.args.allow c.args.request.now (named_statements (c.args.from + c.loop-i.i) 1 (get_or c.args.documents.now c.loop-i.i c.index-documents-i.result).statements) None =
    first-none c.args.schema.now c.args.allow c.args.request.now _ _ c.first_of_statements-first.result (cc)
    (ap (named_statements (c.args.from + c.loop-i.i) 1) (c.as_slice.ensures ∙ ap (λ (d : Document). d.statements) c.index-documents-i.is)) c.first_of_statements-first.ensures in
    λ o first. c.loop-i.invariant o (document-passed c.args.schema.now c.args.allow c.args.request.now c.args.from c.loop-i.i c.args.documents.now c.index-documents-i.result c.loop-i-test.true none o first)

pub returns : goal.returns
returns c = c.loop-i.invariant None (documents-left c.args.schema.now c.args.allow c.args.request.now (c.args.from + c.loop-i.i) c.loop-i.i c.args.documents.now c.loop-i-test.false)
