use Rattle.std.proofs.Common.{List, ℕ, subst}
use Rattle.policy_model.specs.declared.request.Request.{Request}
use Rattle.findings.specs.StandingSummaries.{JudgesSummary}
use Rattle.findings.proofs.Standings.{judged-as}
use Rattle.findings.proofs.standing.check_summary.Goals as goal

pub returns : goal.returns
returns c =
    subst (λ (ps : List (List ℕ × Request)). JudgesSummary c.args.schema.now c.args.base.now c.args.strata.now ps c.verdict_at.result) c.as_slice-pairs.ensures
    (judged-as c.args.schema.now c.args.base.now c.args.strata.now c.as_slice-pairs.result.now c.in_ok-alone.alone c.first_compared-first.result c.verdict_at.result c.in_ok-alone.ensures c.first_compared-first.ensures
    c.verdict_at.ensures)
