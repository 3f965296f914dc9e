use Rattle.std.proofs.lemmas.Result.{err_from_is_err_and}
use Rattle.run_inputs.specs.declared.printed.Printed.{Printed}
use Rattle.run_inputs.proofs.FileLaws.{if_answered_weaker, or_answered_weaker}
use Rattle.certified_summaries.specs.Judged.{IsBadCertificatePrinted, IsListJudged, IsReadJudged}
use Rattle.certified_summaries.proofs.Judging.{head-findings, head-has, judged-bad}
use Rattle.certified_summaries.proofs.check.judge_pairs.Goals as goal

pub cover_of-requires-clause-findings : goal.cover_of-requires-clause-findings
cover_of-requires-clause-findings c = head-findings c.args.subject.now.schema c.args.made.now.strata.dimensions c.args.bytes.now c.args.pairs.now c.requires.head

pub certificate_of-requires-clause-head : goal.certificate_of-requires-clause-head
certificate_of-requires-clause-head c = head-has c.args.subject.now.schema c.args.made.now.strata.dimensions c.args.bytes.now c.args.pairs.now c.requires.head

pub judge_read-requires-clause-findings : goal.judge_read-requires-clause-findings
judge_read-requires-clause-findings c = head-findings c.args.subject.now.schema c.args.made.now.strata.dimensions c.args.bytes.now c.args.pairs.now c.requires.head

pub returns-in_err-read : goal.returns-in_err-read
returns-in_err-read c =
    let subject = c.args.subject.now in
    let made = c.args.made.now in
    let pairs = c.args.pairs.now in
    let bytes = c.args.bytes.now in
    let query = c.in_ok-query.query in
    let says : (p : Printed) → IsBadCertificatePrinted subject.schema query pairs bytes p → IsListJudged subject made.strata.dimensions bytes pairs p =
    λ p v. judged-bad subject made.query made.strata pairs query p c.requires.made c.in_ok-query.ensures bytes v in
    let p = err_from_is_err_and c.from_residual-in_err-read.result c.from_residual-in_err-read.ensures.1 in
    rw (p.1, p.2) (if_answered_weaker _ (IsBadCertificatePrinted subject.schema query pairs bytes) (IsListJudged subject made.strata.dimensions bytes pairs) says c.in_err-read.ensures)

pub returns : goal.returns
returns c =
    let subject = c.args.subject.now in
    let made = c.args.made.now in
    let pairs = c.args.pairs.now in
    let bytes = c.args.bytes.now in
    let says : (p : Printed) → IsReadJudged subject made.strata.dimensions pairs c.in_ok-query.query c.in_ok-read.read p → IsListJudged subject made.strata.dimensions bytes pairs p =
    λ p v. v bytes c.in_ok-read.ensures.is in
    or_answered_weaker c.judge_read.result (IsReadJudged subject made.strata.dimensions pairs c.in_ok-query.query c.in_ok-read.read) (IsListJudged subject made.strata.dimensions bytes pairs) _ _ says says c.judge_read.ensures
