use Rattle.std.proofs.Common.{◌≡◌, ◌∷◌, take}
use Rattle.cnf_clauses.specs.Numbering.{literals_at}
use Rattle.cnf_clauses.proofs.making.Made.add_long.Given as goal

abbrev pub invariant-literals : goal.invariant-literals
invariant-literals l = l.clause ≡ l.fn.literal ∷ literals_at l.value (take l.variable-index l.variables)
