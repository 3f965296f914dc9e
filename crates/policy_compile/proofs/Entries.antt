-- Whether two entries are equal.
use Rattle.std.proofs.Common.{◌≡◌, ◌==◌, ℕ, List, true, arith}
use Rattle.std.specs.Bool.{Decides}
use Rattle.std.proofs.lemmas.Grind.{common_steps}
use Rattle.std.specs.Cmp.Lexicographic.{pointwise, pointwise_decides}
use Rattle.std.proofs.lemmas.Bool.Decides.{Decides-eqb}
use Rattle.policy_model.specs.declared.principal.Entry.{Entry}
use Rattle.policy_model.specs.contracts.principal.EntryPartialEq.TheImpl as entry

same-text : (x y : List ℕ) → pointwise ◌==◌ x y ≡ true → x ≡ y
same-text x y = (pointwise_decides Decides-eqb x y).0

text-same : (x y : List ℕ) → x ≡ y → pointwise ◌==◌ x y ≡ true
text-same x y = (pointwise_decides Decides-eqb x y).1

pub entries-Decides : (a b : Entry) → Decides (entry.eq-value.it a b) (a ≡ b)
entries-Decides a b = grind (arith, common_steps, same-text, text-same)
