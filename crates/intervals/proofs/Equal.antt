-- What `==` answers of numbers, of comparisons and of byte strings.
use Rattle.std.proofs.Common.{◌≡◌, ◌==◌, ℕ, ℤ, List, arith}
use Rattle.std.specs.Bool.{Decides}
use Rattle.std.specs.Cmp.Lexicographic.{pointwise, pointwise_decides}
use Rattle.std.proofs.lemmas.Bool.Decides.{Decides-eqb, Decides-int_eq}
use Rattle.std.proofs.lemmas.Grind.{common_steps}
use Rattle.intervals.specs.declared.compare.Compare.{Compare}
use Rattle.intervals.specs.contracts.compare.ComparePartialEq.TheImpl as compare
use Rattle.intervals.specs.contracts.scaled.ScaledPartialEq.TheImpl as scaled

pub compares-Decides : (a b : Compare) → Decides (compare.eq-value.it a b) (a ≡ b)
compares-Decides a b = grind (arith, common_steps)

pub scaled-Decides : (a b : ℤ) → Decides (scaled.eq-value.it a b) (a ≡ b)
scaled-Decides a b = Decides-int_eq a b

pub bytes-Decides : (a b : List ℕ) → Decides (pointwise ◌==◌ a b) (a ≡ b)
bytes-Decides = pointwise_decides Decides-eqb
