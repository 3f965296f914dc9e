-- The first fault of a list of checks by its parts.
use Rattle.std.proofs.Common.{◌≡◌, List, [], ◌∷◌, ◌++◌, Bool, true, false, Option, Some, None, refl, if◌then◌else◌}
use Rattle.json_shapes.specs.Checks.{Check, first_fault}

one-front : {F : Type 0} (b : Bool) (own : F) (front more : Option F) (fault : F) → (front ≡ Some fault → more ≡ Some fault) → (if b then front else Some own) ≡ Some fault → (if b then more else Some own) ≡ Some fault
one-front true own front more fault step e = step e
one-front false own front more fault step e = e

-- where the front has a fault, it is the first of all
pub first_fault-front : {F : Type 0} (front rest : List (Check F)) (fault : F) → first_fault front ≡ Some fault → first_fault (front ++ rest) ≡ Some fault
first_fault-front [] rest fault e = cc
first_fault-front (c ∷ front) rest fault e = one-front c.passes c.fault (first_fault front) (first_fault (front ++ rest)) fault (first_fault-front front rest fault) e

one-rest : {F : Type 0} (b : Bool) (own : F) (front more rest : Option F) → (front ≡ None → more ≡ rest) → (if b then front else Some own) ≡ None → (if b then more else Some own) ≡ rest
one-rest true own front more rest step e = step e
one-rest false own front more rest step e = cc

-- where it has none, the first of the rest is the first of all
pub first_fault-rest : {F : Type 0} (front rest : List (Check F)) → first_fault front ≡ None → first_fault (front ++ rest) ≡ first_fault rest
first_fault-rest [] rest e = refl
first_fault-rest (c ∷ front) rest e = one-rest c.passes c.fault (first_fault front) (first_fault (front ++ rest)) (first_fault rest) (first_fault-rest front rest) e

if_passes : {F : Type 0} (b : Bool) (own : F) (rest : Option F) → (if b then rest else Some own) ≡ None → b ≡ true
if_passes true own rest e = refl
if_passes false own rest e = cc

-- whether the first check is passed
abbrev pub front_passes : {F : Type 0} → List (Check F) → Bool
front_passes [] = true
front_passes (c ∷ cs) = c.passes

-- where no check fails, the first is passed
pub front_passes-none : {F : Type 0} (checks : List (Check F)) → first_fault checks ≡ None → front_passes checks ≡ true
front_passes-none [] e = refl
front_passes-none (c ∷ cs) e = if_passes c.passes c.fault (first_fault cs) e
