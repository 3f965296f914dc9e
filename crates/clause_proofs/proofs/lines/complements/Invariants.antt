use Rattle.std.proofs.Common.{◌≡◌, map, take}
use Rattle.cnf_clauses.specs.Literals.{complement}
use Rattle.clause_proofs.proofs.lines.complements.Given as goal

abbrev pub invariant-literals : goal.invariant-literals
invariant-literals l = l.clause ≡ map complement (take l.literal-index l.literals)
