use Rattle.std.proofs.Common.{refl}
use Rattle.cnf_clauses.proofs.LevelSteps.{trail-undone}
use Rattle.cnf_clauses.proofs.following.follow_level.Goals as goal

pub returns-in-Ok-Some-clause-same : goal.returns-in-Ok-Some-clause-same
returns-in-Ok-Some-clause-same c =
    trail-undone c.args.clauses.now c.args.path.now c.args.trail.now _ c.follow_answer.new.trail c.take_back.new.trail c.len.result
    c.requires.reasons c.len.ensures refl refl c.in_ok-push.ensures.items c.follow_answer.ensures.kept c.take_back.ensures.cut

pub returns-in-Err-clause-err : goal.returns-in-Err-clause-err
returns-in-Err-clause-err c =
    trail-undone c.args.clauses.now c.args.path.now c.args.trail.now _ c.follow_answer.new.trail c.take_back-in-Err.new.trail c.len.result
    c.requires.reasons c.len.ensures refl refl c.in_ok-push.ensures.items c.follow_answer.ensures.kept c.take_back-in-Err.ensures.cut
