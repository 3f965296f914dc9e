use Rattle.std.proofs.Common.{◌≡◌}
use Rattle.query_reduction.proofs.candidates.Candidates.proposed.Given as goal

abbrev pub invariant-parts : goal.invariant-parts
invariant-parts l = l.relations ≡ l.initial.relations
