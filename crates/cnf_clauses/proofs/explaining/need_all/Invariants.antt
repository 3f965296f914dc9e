use Rattle.std.proofs.Common.{take}
use Rattle.cnf_clauses.specs.Explains.{NeedsAlso}
use Rattle.cnf_clauses.proofs.explaining.need_all.Given as goal

abbrev pub invariant-literals : goal.invariant-literals
invariant-literals l = NeedsAlso (take l.literal-index l.literals) l.initial.needed.items l.needed.items
