use Rattle.policy_emit.proofs.Keeping.{if-ok, statement-kept}
use Rattle.policy_emit.proofs.statement.statement_json.Goals as goal

pub returns-clause-kept : goal.returns-clause-kept
returns-clause-kept c =
    if-ok c.allow_json.result _
    (statement-kept c.args.schema.now c.args.strata.now.dimensions c.args.finding.now c.in_ok-principal.ensures.kept c.in_ok-action.ensures.kept c.in_ok-resource.ensures.kept c.in_ok-conditions_block.ensures.kept)
