use Rattle.std.proofs.Common.{[], false, true, sym, append-nil}
use Rattle.cnf_clauses.proofs.Extending.{goes-extends}
use Rattle.cnf_clauses.proofs.Reasons.{derives-is, derives-on}
use Rattle.cnf_clauses.proofs.Settling.{number-step, held-all}
use Rattle.cnf_clauses.proofs.propagation.follow.Goals as goal

pub holding-preserved : goal.holding-preserved
holding-preserved c =
    let step =
    number-step c.args.clauses.now c.args.decided.now [] c.args.hints.now c.holding.hints c.settle.new.hints c.args.decided.now c.holding.decided c.settle.new.decided
    c.holding-number-items.result.now c.holding.number-index _ _ (sym (append-nil c.args.decided.now))
    c.holding-test.true (c.holding.invariant.0, c.holding.invariant.1) c.in_ok-settle.ensures.steps c.if-branch.false c.in_ok-settle.ensures.settled in (
      step.0,
      step.1,
      derives-on c.args.clauses.now c.args.hints.now c.holding.hints c.settle.new.hints c.args.decided.now c.holding.decided c.settle.new.decided false c.holding.invariant.2
          (derives-is c.args.clauses.now c.holding.hints c.settle.new.hints c.holding.decided c.settle.new.decided _ false c.in_ok-settle.ensures.hints c.if-branch.false),
    )

pub returns-in_err-settle-clause-kept : goal.returns-in_err-settle-clause-kept
returns-in_err-settle-clause-kept c =
    goes-extends c.args.clauses.now c.args.hints.now c.holding.hints c.args.decided.now c.holding.decided c.settle.new.decided c.holding.invariant.0 c.settle.ensures.kept

pub returns-then-branch-clause-kept : goal.returns-then-branch-clause-kept
returns-then-branch-clause-kept c =
    goes-extends c.args.clauses.now c.args.hints.now c.holding.hints c.args.decided.now c.holding.decided c.settle.new.decided c.holding.invariant.0 c.settle.ensures.kept

pub returns-then-branch-clause-hints : goal.returns-then-branch-clause-hints
returns-then-branch-clause-hints c =
    derives-on c.args.clauses.now c.args.hints.now c.holding.hints c.settle.new.hints c.args.decided.now c.holding.decided c.settle.new.decided true c.holding.invariant.2
    (derives-is c.args.clauses.now c.holding.hints c.settle.new.hints c.holding.decided c.settle.new.decided _ true c.in_ok-settle.ensures.hints c.if-branch.true)

pub returns-clause-hints : goal.returns-clause-hints
returns-clause-hints c = c.holding.invariant.2

pub returns-clause-quiet : goal.returns-clause-quiet
returns-clause-quiet c = λ met.
    held-all c.args.clauses.now c.args.decided.now c.holding.decided c.holding-number-items.result.now c.holding.number-index c.args.literal c.holding-test.false c.holding-number-items.ensures c.holding.invariant.1
