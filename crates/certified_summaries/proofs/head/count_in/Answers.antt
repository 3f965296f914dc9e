use Rattle.std.proofs.Common.{arith, sym}
use Rattle.certified_summaries.proofs.Heading.{count-large, count-no_number, count-open, count-other, count-said}
use Rattle.certified_summaries.proofs.head.count_in.Goals as goal

pub returns-in_default : goal.returns-in_default
returns-in_default c = count-open c.args.line.now (sym c.in_default.ensures)

pub returns-in_default-strip_prefix : goal.returns-in_default-strip_prefix
returns-in_default-strip_prefix c = count-other c.args.line.now c.in-Some.content.now (sym c.in-Some.ensures) c.in_default-strip_prefix.ensures.cases

pub returns-in_default-decimal_in : goal.returns-in_default-decimal_in
returns-in_default-decimal_in c =
    count-no_number c.args.line.now c.in-Some.content.now c.in-Some-strip_prefix.digits.now (sym c.in-Some.ensures) c.in-Some-strip_prefix.ensures.cases.1 c.in_default-decimal_in.ensures

pub returns-then-count-gt-MOST_FINDINGS : goal.returns-then-count-gt-MOST_FINDINGS
returns-then-count-gt-MOST_FINDINGS c =
    count-large c.args.line.now c.in-Some.content.now c.in-Some-strip_prefix.digits.now c.in-Some-decimal_in.count (sym c.in-Some.ensures) c.in-Some-strip_prefix.ensures.cases.1 c.in-Some-decimal_in.ensures (omega arith) (omega arith)

pub returns : goal.returns
returns c =
    count-said c.args.line.now c.in-Some.content.now c.in-Some-strip_prefix.digits.now c.in-Some-decimal_in.count (sym c.in-Some.ensures) c.in-Some-strip_prefix.ensures.cases.0 c.in-Some-strip_prefix.ensures.cases.1 c.in-Some-decimal_in.ensures (omega arith)
