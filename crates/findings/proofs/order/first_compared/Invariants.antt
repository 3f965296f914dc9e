use Rattle.findings.proofs.Compared.{ApartBehind}
use Rattle.findings.proofs.order.first_compared.Given as goal

-- none of the pairs so far is comparable to one behind it
abbrev pub invariant-pairs : goal.invariant-pairs
invariant-pairs l = ApartBehind l.strata l.pairs l.i
