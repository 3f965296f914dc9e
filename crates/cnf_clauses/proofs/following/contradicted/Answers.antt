use Rattle.cnf_clauses.proofs.Answering.{opposite-agrees, opposite-clause, opposite-refuted}
use Rattle.cnf_clauses.proofs.following.contradicted.Goals as goal

pub explain-requires-clause-agree : goal.explain-requires-clause-agree
explain-requires-clause-agree c =
    opposite-agrees c.args.path.now c.args.trail.now.decided c.args.test c.index_of-index.result c.requires.others c.index_of-index.ensures.before

pub explain-requires-clause-refuted : goal.explain-requires-clause-refuted
explain-requires-clause-refuted c =
    opposite-refuted c.args.clauses.now c.args.path.now c.args.trail.now.decided c.args.trail.now.reasons.items c.args.test c.index_of-index.result c.reason_at.result c.in-Some.number
    c.requires.reasons c.requires.others c.requires.opposite c.index_of-index.ensures.before c.index_of-index.ensures.there c.reason_at.ensures c.in-Some.is

pub unreachable-requires : goal.unreachable-requires
unreachable-requires c =
    opposite-clause c.args.clauses.now c.args.path.now c.args.trail.now.decided c.args.trail.now.reasons.items c.args.test c.index_of-index.result c.reason_at.result
    c.requires.reasons c.requires.opposite c.index_of-index.ensures.there c.reason_at.ensures c.in-None.is
