use Rattle.std.proofs.Common.{inl, inr}
use Rattle.std.proofs.lemmas.Result.{err_from_is_err_and}
use Rattle.run_inputs.specs.declared.printed.Printed.{Printed}
use Rattle.run_inputs.proofs.FileLaws.{if_answered_weaker, or_answered_weaker}
use Rattle.certified_summaries.specs.Judged.{IsBadHeadPrinted, IsJudged, IsListJudged}
use Rattle.certified_summaries.proofs.check.judge.Goals as goal

pub returns-in_err-pairs : goal.returns-in_err-pairs
returns-in_err-pairs c =
    let subject = c.args.subject.now in
    let ds = c.args.made.now.strata.dimensions in
    let bytes = c.args.bytes.now in
    let says : (p : Printed) → IsBadHeadPrinted subject ds bytes p → IsJudged subject ds bytes p = λ p v. inl v in
    let p = err_from_is_err_and c.from_residual.result c.from_residual.ensures.1 in
    rw (p.1, p.2) (if_answered_weaker _ (IsBadHeadPrinted subject ds bytes) (IsJudged subject ds bytes) says c.in_err-pairs.ensures)

pub returns : goal.returns
returns c =
    let subject = c.args.subject.now in
    let ds = c.args.made.now.strata.dimensions in
    let bytes = c.args.bytes.now in
    let pairs = c.in_ok-pairs.pairs in
    let says : (p : Printed) → IsListJudged subject ds bytes pairs p → IsJudged subject ds bytes p = λ p v. inr (record { pairs = pairs; is = c.in_ok-pairs.ensures; holds = v }) in
    or_answered_weaker c.judge_pairs.result (IsListJudged subject ds bytes pairs) (IsJudged subject ds bytes) _ _ says says c.judge_pairs.ensures
