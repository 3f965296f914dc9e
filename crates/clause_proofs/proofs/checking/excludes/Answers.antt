use Rattle.clause_proofs.proofs.Stepping.{not-accepted, path-in-range}
use Rattle.clause_proofs.proofs.checking.excludes.Goals as goal

pub returns-then-not-are_in_range : goal.returns-then-not-are_in_range
returns-then-not-are_in_range c = (
  λ told. absurd (cc),
  λ accepted. absurd (not-accepted c.args.subject.now.schema.now c.args.subject.now.query.now.tests c.args.answers.now c.args.proof.now c.len.result c.are_in_range.result c.len.ensures c.are_in_range.ensures (cc) accepted),
)

pub accepts-requires-clause-range : goal.accepts-requires-clause-range
accepts-requires-clause-range c =
    path-in-range c.args.subject.now.query.now.tests c.args.answers.now c.args.path.now c.len.result c.len.ensures c.requires.path (c.are_in_range.ensures.0 (cc))
