use Rattle.std.proofs.Common.{arith, false, true, sym, ◌∙◌}
use Rattle.cnf_clauses.proofs.Extending.{goes-extends}
use Rattle.cnf_clauses.proofs.Reasons.{derives-is, derives-on}
use Rattle.cnf_clauses.proofs.Settling.{next-step, next-all, none_past}
use Rattle.cnf_clauses.proofs.propagation.follow_all.Goals as goal
use Rattle.cnf_clauses.proofs.propagation.follow_all.Goals.{else-next-test, then-next-test+in_default}

pub next-preserved : goal.next-preserved
next-preserved c =
    let step =
    next-step c.args.clauses.now c.args.hints.now c.next.hints c.follow.new.hints c.args.decided.now c.next.decided c.follow.new.decided c.next.next c.in-Some.variable c.in-Some.value _
    c.in-Some.ensures (c.next.invariant.0, c.next.invariant.1) c.in_ok-follow.ensures.steps c.if-branch.false c.in_ok-follow.ensures.quiet in (
      step.0,
      step.1,
      derives-on c.args.clauses.now c.args.hints.now c.next.hints c.follow.new.hints c.args.decided.now c.next.decided c.follow.new.decided false c.next.invariant.2
          (derives-is c.args.clauses.now c.next.hints c.follow.new.hints c.next.decided c.follow.new.decided _ false c.in_ok-follow.ensures.hints c.if-branch.false),
    )

pub returns-in_err-follow-clause-kept : goal.returns-in_err-follow-clause-kept
returns-in_err-follow-clause-kept c =
    goes-extends c.args.clauses.now c.args.hints.now c.next.hints c.args.decided.now c.next.decided c.follow.new.decided c.next.invariant.0 c.follow.ensures.kept

pub returns-then-branch-clause-kept : goal.returns-then-branch-clause-kept
returns-then-branch-clause-kept c =
    goes-extends c.args.clauses.now c.args.hints.now c.next.hints c.args.decided.now c.next.decided c.follow.new.decided c.next.invariant.0 c.follow.ensures.kept

pub returns-then-branch-clause-hints : goal.returns-then-branch-clause-hints
returns-then-branch-clause-hints c =
    derives-on c.args.clauses.now c.args.hints.now c.next.hints c.follow.new.hints c.args.decided.now c.next.decided c.follow.new.decided true c.next.invariant.2
    (derives-is c.args.clauses.now c.next.hints c.follow.new.hints c.next.decided c.follow.new.decided _ true c.in_ok-follow.ensures.hints c.if-branch.true)

pub returns-clause-hints : goal.returns-clause-hints
returns-clause-hints c = c.next.invariant.2

pub returns-clause-quiet : goal.returns-clause-quiet
returns-clause-quiet c = λ met.
    elim c.next-test.branch [
      | else-next-test w ↦ next-all c.args.clauses.now c.next.decided c.next.next (omega arith) c.next.invariant.1
      | then-next-test+in_default w ↦ next-all c.args.clauses.now c.next.decided c.next.next (none_past c.next.decided c.next.next (sym w.in_default.is ∙ w.get.ensures)) c.next.invariant.1
    ]
