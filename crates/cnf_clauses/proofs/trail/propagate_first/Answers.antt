use Rattle.cnf_clauses.proofs.Reasons.{noted-keeps, noted-met, noted-quiet}
use Rattle.cnf_clauses.proofs.trail.propagate_first.Goals as goal

pub returns-clause-reasons : goal.returns-clause-reasons
returns-clause-reasons c =
    noted-keeps c.args.clauses.now c.args.trail.now.decided c.settle_all.new.decided c.args.trail.now.reasons.items c.note.new.reasons.items c.new-hints.result c.settle_all.new.hints c.in_ok-met.met c.in_ok-refuted.refuted
    c.new-hints.ensures c.in_ok-met.ensures.hints c.in_ok-refuted.ensures.noted

pub returns-clause-met : goal.returns-clause-met
returns-clause-met c =
    noted-met c.args.clauses.now c.args.trail.now.decided c.settle_all.new.decided c.args.trail.now.reasons.items c.note.new.reasons.items c.new-hints.result c.settle_all.new.hints c.in_ok-met.met c.in_ok-refuted.refuted
    c.new-hints.ensures c.in_ok-met.ensures.hints c.in_ok-refuted.ensures.noted

pub returns-clause-none : goal.returns-clause-none
returns-clause-none c =
    noted-quiet c.args.clauses.now c.args.trail.now.decided c.settle_all.new.decided c.args.trail.now.reasons.items c.note.new.reasons.items c.new-hints.result c.settle_all.new.hints c.in_ok-met.met c.in_ok-refuted.refuted
    c.new-hints.ensures c.in_ok-met.ensures.hints c.in_ok-refuted.ensures.noted
    c.in_ok-met.ensures.quiet
