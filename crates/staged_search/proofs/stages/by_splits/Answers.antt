use Rattle.std.proofs.Common.{subst, sym}
use Rattle.staged_search.specs.declared.verdict.Verdict.{Verdict}
use Rattle.staged_search.specs.Stages.{IsStagedVerdict}
use Rattle.staged_search.proofs.Staging.{staged_if_decided}
use Rattle.staged_search.proofs.stages.by_splits.Goals as goal

pub returns : goal.returns
returns c =
    let schema = c.args.schema.now in
    let query = c.args.query.now in
    subst (λ (v : Verdict). IsStagedVerdict schema query c.args.budgets v) (sym c.verdict_in.ensures)
    (staged_if_decided c.closed_queries_are_no.ensures schema query c.args.budgets c.requires c.in_ok-decided.decided c.in_ok-decided.ensures.decision)
