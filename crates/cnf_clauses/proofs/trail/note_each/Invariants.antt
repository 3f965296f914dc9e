use Rattle.std.proofs.Common.{◌≡◌, ◌++◌, take, map, Some}
use Rattle.cnf_clauses.proofs.trail.note_each.Given as goal

abbrev pub invariant-numbers : goal.invariant-numbers
invariant-numbers l = l.reasons.items ≡ l.initial.reasons.items ++ map Some (take l.number-index l.numbers)
