use Rattle.std.proofs.Common.{◌≡◌}
use Rattle.query_reduction.proofs.implies.Implications.one_implies.Given as goal

abbrev pub invariant-found : goal.invariant-found
invariant-found l = l.self.relations ≡ l.initial.self.relations
