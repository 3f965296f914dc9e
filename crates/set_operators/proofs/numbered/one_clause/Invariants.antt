use Rattle.std.proofs.Common.{◌≡◌, true}
use Rattle.set_operators.specs.Clauses.{numbered_literals}
use Rattle.set_operators.proofs.numbered.one_clause.Given as goal

abbrev pub invariant-loop-k : goal.invariant-loop-k
invariant-loop-k g l = l.clause ≡ numbered_literals (g.L.Numbered.literal_of true) l.first l.k
