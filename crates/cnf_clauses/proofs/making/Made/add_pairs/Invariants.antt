use Rattle.std.proofs.Common.{◌≡◌, take}
use Rattle.cnf_clauses.specs.Numbering.{pairs_with, with_more}
use Rattle.cnf_clauses.proofs.making.Made.add_pairs.Given as goal

abbrev pub invariant-pairs : goal.invariant-pairs
invariant-pairs l = l.self ≡ with_more l.initial.self (pairs_with l.literal l.value (take l.variable-index l.variables))
