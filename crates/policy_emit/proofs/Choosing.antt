-- What a choice comes to.
use Rattle.std.proofs.Common.{◌≡◌, Bool, true, false, refl, if◌then◌else◌}

pub then-taken : {X : Type 0} (b : Bool) (x y : X) → b ≡ true → (if b then x else y) ≡ x
then-taken true x y e = refl
then-taken false x y e = absurd (cc)

pub else-taken : {X : Type 0} (b : Bool) (x y : X) → b ≡ false → (if b then x else y) ≡ y
else-taken false x y e = refl
else-taken true x y e = absurd (cc)
