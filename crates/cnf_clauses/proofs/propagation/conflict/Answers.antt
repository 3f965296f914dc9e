use Rattle.cnf_clauses.proofs.Settling.{met-replays, no-replay}
use Rattle.cnf_clauses.proofs.propagation.conflict.Goals as goal

pub returns-then-branch-clause-hints : goal.returns-then-branch-clause-hints
returns-then-branch-clause-hints c =
    met-replays c.args.clauses.now c.args.path.now c.in_ok-decided.decided c.settle_all.new.decided c.new-hints.result c.settle_all.new.hints _
    c.in_ok-decided.ensures c.new-hints.ensures c.in_ok-settle_all.ensures.steps c.if-branch.true

pub returns-clause-none : goal.returns-clause-none
returns-clause-none c =
    no-replay c.args.clauses.now c.args.path.now c.in_ok-decided.decided c.settle_all.new.decided c.new-hints.result c.settle_all.new.hints _
    c.in_ok-decided.ensures c.in_ok-settle_all.ensures.steps c.in_ok-settle_all.ensures.quiet c.if-branch.false
