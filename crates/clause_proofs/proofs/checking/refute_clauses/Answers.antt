use Rattle.std.proofs.Common.{◌≡◌, [], sym, ◌∙◌}
use Rattle.clause_proofs.specs.Refuting.{clause_of}
use Rattle.clause_proofs.proofs.Stepping.{adds-one, ends-all, fails-all, none-left}
use Rattle.clause_proofs.proofs.checking.refute_clauses.Goals as goal

pub returns-then-not-branch : goal.returns-then-not-branch
returns-then-not-branch c =
    fails-all c.args.subject.now.schema.now c.args.subject.now.query.now.tests c.args.clauses c.lines.clauses c.args.lines.now c.lines.line-index c.line-item.result c.lines-test.true c.line-item.is c.lines.invariant
    c.in_ok-is_right.field-0 c.in_ok-is_right.ensures (cc)

pub returns-then-is_empty : goal.returns-then-is_empty
returns-then-is_empty c =
    ends-all c.args.subject.now.schema.now c.args.subject.now.query.now.tests c.args.clauses c.lines.clauses c.args.lines.now c.lines.line-index c.line-item.result c.lines-test.true c.line-item.is c.lines.invariant
    c.in_ok-is_right.field-0 c.in_ok-is_right.ensures (cc) (sym c.in_ok-clause.ensures ∙ c.is_empty.ensures.0 c.if-is_empty.true)

pub lines-preserved : goal.lines-preserved
lines-preserved c =
    let more = λ (empty : clause_of c.line-item.result ≡ []). let told = c.is_empty.ensures.1 (c.in_ok-clause.ensures ∙ empty) in absurd (cc) in
    adds-one c.args.subject.now.schema.now c.args.subject.now.query.now.tests c.args.clauses c.lines.clauses c.args.lines.now c.lines.line-index c.line-item.result c.lines-test.true c.line-item.is c.lines.invariant
    c.in_ok-clauses.clauses c.in_ok-is_right.field-0 c.in_ok-is_right.ensures (cc) more (rw c.in_ok-clause.ensures at c.in_ok-clauses.ensures)

pub returns : goal.returns
returns c = none-left c.args.subject.now.schema.now c.args.subject.now.query.now.tests c.args.clauses c.lines.clauses c.args.lines.now c.lines.line-index c.lines-test.false c.lines.invariant
