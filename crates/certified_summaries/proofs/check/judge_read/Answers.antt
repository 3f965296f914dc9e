use Rattle.std.proofs.Common.{arith, refl}
use Rattle.run_inputs.specs.declared.printed.Printed.{Printed}
use Rattle.run_inputs.proofs.FileLaws.{or_answered_weaker}
use Rattle.certified_summaries.specs.Judged.{IsClosingPrinted, IsReadJudged}
use Rattle.certified_summaries.proofs.Judging.{failing-within, judged-failing, judged-standing}
use Rattle.certified_summaries.proofs.check.judge_read.Goals as goal

pub print_closing-requires-clause-suit : goal.print_closing-requires-clause-suit
print_closing-requires-clause-suit c = (c.requires.cover.askable c.args.subject.now.schema c.args.subject.now.region c.requires.made).suit

pub overflow_mul-place : goal.overflow_mul-place
overflow_mul-place c =
    omega (arith, c.requires.few, failing-within c.args.subject.now c.args.made.now.query c.args.made.now.strata c.args.pairs.now c.in-Fails.place _ c.requires.made c.in_ok-check_summary.ensures c.in-Fails.is)

pub overflow_add-place : goal.overflow_add-place
overflow_add-place c =
    omega (arith, c.requires.few, failing-within c.args.subject.now c.args.made.now.query c.args.made.now.strata c.args.pairs.now c.in-Fails.place _ c.requires.made c.in_ok-check_summary.ensures c.in-Fails.is)

pub returns-in-Stands : goal.returns-in-Stands
returns-in-Stands c =
    let subject = c.args.subject.now in
    let made = c.args.made.now in
    let says : (p : Printed) → IsClosingPrinted subject.schema c.args.query.now c.args.read.now p → IsReadJudged subject made.strata.dimensions c.args.pairs.now c.args.query.now c.args.read.now p =
    λ p v. judged-standing subject made.query made.strata c.args.pairs.now c.args.query.now c.args.read.now p c.requires.made c.requires.cover c.closed_covers_leave_nobody_out.ensures c.requires.findings _ c.in_ok-check_summary.ensures c.in-Stands.is v in
    or_answered_weaker c.print_closing.result (IsClosingPrinted subject.schema c.args.query.now c.args.read.now) (IsReadJudged subject made.strata.dimensions c.args.pairs.now c.args.query.now c.args.read.now) _ _ says says c.print_closing.ensures

pub returns-in_ok-not_summary_line-in-Fails : goal.returns-in_ok-not_summary_line-in-Fails
returns-in_ok-not_summary_line-in-Fails c =
    let subject = c.args.subject.now in
    let made = c.args.made.now in
    judged-failing subject made.query made.strata c.args.pairs.now c.args.query.now c.args.read.now _ c.requires.made c.requires.cover c.in-Fails.place _ _ c.in_ok-check_summary.ensures c.in-Fails.is refl (c.in_ok-not_summary_line-in-Fails.ensures, refl)
