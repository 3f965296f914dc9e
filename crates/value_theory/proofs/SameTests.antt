-- Tests with the same meaning are the same.
use Rattle.std.proofs.Common.{◌≡◌, Bool, true, false, refl, sym}

pub same_tests : (p q : Bool) → (p ≡ true → q ≡ true) → (q ≡ true → p ≡ true) → p ≡ q
same_tests true q h k = sym (h refl)
same_tests false true h k = k refl
same_tests false false h k = refl
