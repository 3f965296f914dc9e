use Rattle.std.proofs.Common.{take}
use Rattle.cnf_clauses.specs.Found.{Finds}
use Rattle.cnf_clauses.proofs.clause.look.Given as goal

abbrev pub invariant-look : goal.invariant-look
invariant-look l = Finds l.decided (take l.literal-index l.literals) l.found
