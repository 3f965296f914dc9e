use Rattle.std.proofs.Common.{All, take}
use Rattle.slot_theory.specs.Cores.{IsContradicted}
use Rattle.slot_theory.proofs.kinds.is_contradicted.Given as goal

abbrev pub invariant-loop-n : goal.invariant-loop-n
invariant-loop-n l = All (λ n. IsContradicted l.tests l.path l.kind n → ⊥) (take l.n-index l.core)
