-- Cores that lose tests.
use Rattle.std.proofs.Common.{◌≡◌, Option, Some, None, Result, Ok, Err, IfOk, subst, sym}
use Rattle.std.specs.Prelude.{IfSome}
use Rattle.slot_theory.specs.Shrinking.{found_or}

-- what holds of the found one and of the one that is had
pub found-or-had : {T E : Type 0} (P : T → Type 0) (found : Result (Option T) E) (had : T) (r : Result T E) → r ≡ found_or found had → P had → IfOk found (λ o. IfSome o P) → IfOk r P
found-or-had P (Ok (Some x)) had r is own other = subst (λ z. IfOk z P) (sym is) other
found-or-had P (Ok None) had r is own other = subst (λ z. IfOk z P) (sym is) own
found-or-had P (Err e) had r is own other = subst (λ z. IfOk z P) (sym is) tt
