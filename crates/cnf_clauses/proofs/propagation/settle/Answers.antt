use Rattle.cnf_clauses.proofs.Settling.{goes-same, settle-open, settle-refuted, settle-unit}
use Rattle.cnf_clauses.proofs.Reasons.{settle-derives, settle-meets}
use Rattle.cnf_clauses.proofs.Extending.{extends-by}
use Rattle.cnf_clauses.proofs.propagation.settle.Goals as goal

pub returns-in_ok-push-in-Refuted-clause-steps : goal.returns-in_ok-push-in-Refuted-clause-steps
returns-in_ok-push-in-Refuted-clause-steps c = settle-refuted c.args.clauses.now c.args.decided.now c.args.hints.now c.push.new.self c.args.number c.in-Refuted.ensures c.in_ok-push-in-Refuted.ensures.ok

pub returns-in_ok-push-in-Unit-2-clause-steps : goal.returns-in_ok-push-in-Unit-2-clause-steps
returns-in_ok-push-in-Unit-2-clause-steps c =
    settle-unit c.args.clauses.now c.args.decided.now c.push-in-Unit-2.new.self c.args.hints.now c.push-in-Unit.new.self c.args.number c.in-Unit.variable c.in-Unit.value
    c.in-Unit.ensures c.in_ok-push-in-Unit.ensures.ok c.in_ok-push-in-Unit-2.ensures.ok

pub returns-in_ok-push-in-Unit-2-clause-settled : goal.returns-in_ok-push-in-Unit-2-clause-settled
returns-in_ok-push-in-Unit-2-clause-settled c = λ met.
    settle-open c.args.clauses.now c.args.decided.now c.push-in-Unit-2.new.self c.args.number c.in-Unit.variable c.in-Unit.value c.in-Unit.ensures c.in_ok-push-in-Unit-2.ensures.ok

pub returns-in_ok-push-in-Unit-2-clause-hints : goal.returns-in_ok-push-in-Unit-2-clause-hints
returns-in_ok-push-in-Unit-2-clause-hints c =
    settle-derives c.args.clauses.now c.args.decided.now c.push-in-Unit-2.new.self c.args.hints.now c.push-in-Unit.new.self c.args.number c.in-Unit.variable c.in-Unit.value
    c.in-Unit.ensures c.in_ok-push-in-Unit.ensures.ok c.in_ok-push-in-Unit-2.ensures.ok

pub returns-then-branch-clause-steps : goal.returns-then-branch-clause-steps
returns-then-branch-clause-steps c = goes-same c.args.clauses.now c.args.hints.now c.args.decided.now

pub returns-in-Open-clause-steps : goal.returns-in-Open-clause-steps
returns-in-Open-clause-steps c = goes-same c.args.clauses.now c.args.hints.now c.args.decided.now

pub returns-in_ok-push-in-Refuted-clause-hints : goal.returns-in_ok-push-in-Refuted-clause-hints
returns-in_ok-push-in-Refuted-clause-hints c = settle-meets c.args.clauses.now c.args.decided.now c.args.hints.now c.push.new.self c.args.number c.in-Refuted.ensures c.in_ok-push-in-Refuted.ensures.ok

pub returns-in_ok-push-in-Unit-2-clause-kept : goal.returns-in_ok-push-in-Unit-2-clause-kept
returns-in_ok-push-in-Unit-2-clause-kept c = extends-by c.args.decided.now c.push-in-Unit-2.new.self _ c.in_ok-push-in-Unit-2.ensures.ok
