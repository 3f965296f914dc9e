use Rattle.std.proofs.lemmas.Option.{MatchOption-at_none, MatchOption-at_some}
use Rattle.cnf_clauses.proofs.Answering.{contained-agrees, contained-refuted, nothing-contained}
use Rattle.cnf_clauses.proofs.LevelSteps.{empty-reasons, trail-begun}
use Rattle.cnf_clauses.proofs.following.first_conflict.Goals as goal

pub returns-in_default-clause-none : goal.returns-in_default-clause-none
returns-in_default-clause-none c =
    trail-begun c.args.clauses.now c.args.path.now c.args.trail.now c.propagate_first.new.trail c.requires.path c.requires.trail
    c.in_ok-number.ensures.reasons (MatchOption-at_none _ _ c.in_default.is c.in_ok-number.ensures.none) c.propagate_first.ensures.marks

pub explain-requires-clause-reasons : goal.explain-requires-clause-reasons
explain-requires-clause-reasons c = c.in_ok-number.ensures.reasons c.args.path.now (empty-reasons c.args.clauses.now c.args.path.now c.args.trail.now c.requires.trail)

pub explain-requires-clause-agree : goal.explain-requires-clause-agree
explain-requires-clause-agree c =
    contained-agrees c.args.path.now c.propagate_first.new.trail.decided c.len-upto.result c.len-upto.ensures (nothing-contained c.args.path.now c.propagate_first.new.trail.decided c.requires.path)

pub explain-requires-clause-refuted : goal.explain-requires-clause-refuted
explain-requires-clause-refuted c =
    contained-refuted c.args.clauses.now c.args.path.now c.propagate_first.new.trail.decided c.len-upto.result c.in-Some.number c.len-upto.ensures
    (nothing-contained c.args.path.now c.propagate_first.new.trail.decided c.requires.path) (MatchOption-at_some _ _ _ c.in-Some.is c.in_ok-number.ensures.met)
