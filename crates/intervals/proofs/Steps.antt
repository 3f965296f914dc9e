-- Steps that may fail, forwards and backwards, and digits at the front of a text.
use Rattle.std.proofs.Common.{◌≡◌, ℕ, ◌&&◌, ◌==◌, Bool, true, false, cond, List, [], ◌∷◌, ◌++◌, length, take, drop, refl, arith, Option, Some, None}
use Rattle.std.specs.Option.{option_map, option_and_then}
use Rattle.std.proofs.Math.Seq.{take-append_seam, drop-append_seam}
use Rattle.std.proofs.lemmas.Grind.{common_steps}
use Rattle.std.specs.List.{list_all}
use Rattle.std.specs.Char.{is_ascii_digit}
use Rattle.intervals.specs.Digits.{is_digits, digit_run}

pub by_bool : {P : Type 0} (b : Bool) → (b ≡ true → P) → (b ≡ false → P) → P
by_bool true then otherwise = then refl
by_bool false then otherwise = otherwise refl

-- a step that gave a value had one
pub mapped : {A B : Type 0} (f : A → B) (o : Option A) (y : B) → option_map f o ≡ Some y → (x : A) × (o ≡ Some x) × (f x ≡ y)
mapped f None y h = absurd (cc)
mapped f (Some x) y h = (x, refl, cc)

pub chained : {A B : Type 0} (f : A → Option B) (o : Option A) (y : B) → option_and_then f o ≡ Some y → (x : A) × (o ≡ Some x) × (f x ≡ Some y)
chained f None y h = absurd (cc)
chained f (Some x) y h = (x, refl, h)

pub guarded : {A : Type 0} (b : Bool) (o : Option A) (y : A) → cond b o None ≡ Some y → (b ≡ true) × (o ≡ Some y)
guarded true o y h = (refl, h)
guarded false o y h = absurd (cc)

pub both : (a b : Bool) → (a && b) ≡ true → (a ≡ true) × (b ≡ true)
both true b h = (refl, h)
both false b h = absurd (cc)

-- digits in front of what is no digit
pub run_stops : (digits rest : List ℕ) → list_all is_ascii_digit digits ≡ true → digit_run rest ≡ 0 → digit_run (digits ++ rest) ≡ length digits
run_stops [] rest h e = e
run_stops (d ∷ digits) rest h e =
    let parts = both (is_ascii_digit d) (list_all is_ascii_digit digits) h in
    let later = run_stops digits rest parts.1 e in
    rw (parts.0, later) (omega arith)

pub front_digits : (digits rest : List ℕ) → list_all is_ascii_digit digits ≡ true → digit_run rest ≡ 0 → take (digit_run (digits ++ rest)) (digits ++ rest) ≡ digits
front_digits digits rest h e = rw (run_stops digits rest h e) (take-append_seam digits rest)

pub behind_digits : (digits rest : List ℕ) → list_all is_ascii_digit digits ≡ true → digit_run rest ≡ 0 → drop (digit_run (digits ++ rest)) (digits ++ rest) ≡ rest
behind_digits digits rest h e = rw (run_stops digits rest h e) (drop-append_seam digits rest)

-- a text of digits has only digits
pub only_digits : (most : ℕ) (text : List ℕ) → is_digits most text ≡ true → list_all is_ascii_digit text ≡ true
only_digits most text h = (both _ _ (both _ _ h).1).1

pub same_of : (a b : ℕ) → (a == b) ≡ true → a ≡ b
same_of a b h = grind (arith, common_steps)
