use Rattle.std.proofs.Common.{◌≡◌, ◌++◌, false}
use Rattle.set_operators.specs.Clauses.{numbered_apart}
use Rattle.set_operators.proofs.numbered.push_apart.Given as goal

abbrev pub invariant-loop-k : goal.invariant-loop-k
invariant-loop-k g l = l.clauses ≡ l.initial.clauses ++ numbered_apart (g.L.Numbered.literal_of false) l.first l.k
