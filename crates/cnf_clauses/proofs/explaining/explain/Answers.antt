use Rattle.std.proofs.Common.{◌++◌, take}
use Rattle.cnf_clauses.proofs.Tracing.{trace-first}
use Rattle.cnf_clauses.proofs.explaining.explain.Goals as goal

pub trace_back-requires-clause-conflict : goal.trace_back-requires-clause-conflict
trace_back-requires-clause-conflict c =
    trace-first c.args.clauses.now (c.args.path.now ++ take c.args.upto c.args.trail.now.decided) c.args.number _ c.trace.new.traced c.new.ensures.items c.new-2.ensures.items c.requires.refuted c.in_ok-trace.ensures
