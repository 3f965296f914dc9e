use Rattle.std.proofs.Common.{ap, ◌∙◌}
use Rattle.policy_json.specs.Sets.{set_from}
use Rattle.findings.specs.Summaries.{findings_of}
use Rattle.policy_emit.proofs.Keeping.{few-found}
use Rattle.policy_emit.proofs.policy.emit.Goals as goal

pub returns-clause-emitted : goal.returns-clause-emitted
returns-clause-emitted c = (few-found c.args.summary.now c.are_too_many.result c.are_too_many.ensures c.if-are_too_many.false, c.in_ok-document_text.ensures.text)

pub returns-clause-read : goal.returns-clause-read
returns-clause-read c = λ made.
    let few = few-found c.args.summary.now c.are_too_many.result c.are_too_many.ensures c.if-are_too_many.false in
    ap set_from c.in_ok-document_text.ensures.text ∙ c.emitted_policies_are_read.ensures c.args.schema.now c.args.strata.now (findings_of c.args.summary.now) few c.in_ok-document_text.ensures.kept made
