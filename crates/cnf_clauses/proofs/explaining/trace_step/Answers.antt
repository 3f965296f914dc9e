use Rattle.cnf_clauses.specs.Explains.{ExplainsAt, IsTraced}
use Rattle.cnf_clauses.proofs.Indexing.{on_ok}
use Rattle.cnf_clauses.proofs.Tracing.{trace-more, trace-skip}
use Rattle.cnf_clauses.proofs.explaining.trace_step.Goals as goal

pub returns-in-Some : goal.returns-in-Some
returns-in-Some c =
    let cs = c.args.clauses.now in
    let path = c.args.path.now in
    let trail = c.args.trail.now in
    on_ok c.trace.result (IsTraced cs c.args.traced.now c.in-Some.number c.trace.new.traced) (ExplainsAt cs path trail.decided c.args.index c.trace.new.traced)
    (trace-more cs path trail.decided trail.reasons.items c.args.index c.at-literal.result c.reason_at-reason.result c.in-Some.number c.args.traced.now c.trace.new.traced
    c.requires.reasons c.at-literal.ensures c.requires.agree c.reason_at-reason.ensures c.in-Some.ensures c.requires.later)
    c.trace.ensures

pub returns-in-None : goal.returns-in-None
returns-in-None c =
    let trail = c.args.trail.now in
    trace-skip c.args.clauses.now c.args.path.now trail.decided trail.reasons.items c.args.index c.at-literal.result c.reason_at-reason.result c.args.traced.now
    c.requires.reasons c.at-literal.ensures c.reason_at-reason.ensures c.in-None.ensures c.requires.later
