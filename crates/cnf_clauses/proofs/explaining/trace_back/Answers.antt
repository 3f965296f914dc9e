use Rattle.std.proofs.Common.{◌-◌, arith}
use Rattle.cnf_clauses.proofs.Tracing.{agree-less}
use Rattle.cnf_clauses.proofs.explaining.trace_back.Goals as goal

pub trace_step-requires-clause-agree : goal.trace_step-requires-clause-agree
trace_step-requires-clause-agree c = agree-less c.args.path.now c.args.trail.now.decided (c.back.left - 1) c.args.upto (omega arith) c.requires.agree
