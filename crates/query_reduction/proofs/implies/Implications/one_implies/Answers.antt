use Rattle.std.proofs.Common.{◌∙◌}
use Rattle.query_reduction.proofs.implies.Implications.one_implies.Goals as goal

pub returns-then-implies-clause-same : goal.returns-then-implies-clause-same
returns-then-implies-clause-same c = c.implies.ensures.same ∙ c.found.invariant

pub returns-then-implies-clause-implied : goal.returns-then-implies-clause-implied
returns-then-implies-clause-implied c = λ e true_of for others.
    let h = rw c.found.invariant at (c.implies.ensures.implied c.if-implies.true) in
    h true_of for (others _ _ c.if-k-parts.false c.if-k-index.false)
