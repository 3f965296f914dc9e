use Rattle.std.proofs.Common.{[], false, true, refl}
use Rattle.cnf_clauses.proofs.Extending.{goes-extends}
use Rattle.cnf_clauses.proofs.Reasons.{derives-is, derives-on}
use Rattle.cnf_clauses.proofs.Settling.{number-step, short-all}
use Rattle.cnf_clauses.proofs.propagation.settle_short.Goals as goal

pub short-preserved : goal.short-preserved
short-preserved c =
    let step =
    number-step c.args.clauses.now [] c.args.decided.now c.args.hints.now c.short.hints c.settle.new.hints c.args.decided.now c.short.decided c.settle.new.decided
    c.short-number-items.result.now c.short.number-index _ _ refl
    c.short-test.true (c.short.invariant.0, c.short.invariant.1) c.in_ok-settle.ensures.steps c.if-branch.false c.in_ok-settle.ensures.settled in (
      step.0,
      step.1,
      derives-on c.args.clauses.now c.args.hints.now c.short.hints c.settle.new.hints c.args.decided.now c.short.decided c.settle.new.decided false c.short.invariant.2
          (derives-is c.args.clauses.now c.short.hints c.settle.new.hints c.short.decided c.settle.new.decided _ false c.in_ok-settle.ensures.hints c.if-branch.false),
    )

pub returns-in_err-settle-clause-kept : goal.returns-in_err-settle-clause-kept
returns-in_err-settle-clause-kept c =
    goes-extends c.args.clauses.now c.args.hints.now c.short.hints c.args.decided.now c.short.decided c.settle.new.decided c.short.invariant.0 c.settle.ensures.kept

pub returns-then-branch-clause-kept : goal.returns-then-branch-clause-kept
returns-then-branch-clause-kept c =
    goes-extends c.args.clauses.now c.args.hints.now c.short.hints c.args.decided.now c.short.decided c.settle.new.decided c.short.invariant.0 c.settle.ensures.kept

pub returns-then-branch-clause-hints : goal.returns-then-branch-clause-hints
returns-then-branch-clause-hints c =
    derives-on c.args.clauses.now c.args.hints.now c.short.hints c.settle.new.hints c.args.decided.now c.short.decided c.settle.new.decided true c.short.invariant.2
    (derives-is c.args.clauses.now c.short.hints c.settle.new.hints c.short.decided c.settle.new.decided _ true c.in_ok-settle.ensures.hints c.if-branch.true)

pub returns-clause-hints : goal.returns-clause-hints
returns-clause-hints c = c.short.invariant.2

pub returns-clause-quiet : goal.returns-clause-quiet
returns-clause-quiet c = λ met.
    short-all c.args.clauses.now c.short.decided c.short-number-items.result.now c.short.number-index c.short-test.false c.short-number-items.ensures c.short.invariant.1
