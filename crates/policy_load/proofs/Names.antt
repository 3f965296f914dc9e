-- The names of the keys are texts in lower case.
use Rattle.std.proofs.Common.{◌≡◌, ◌<◌, ◌+◌, ◌/◌, ◌%◌, ◌++◌, ℕ, List, [], ◌∷◌, true, ap, refl, arith, lt-ltb}
use Rattle.std.specs.Char.{to_ascii_lowercase}
use Rattle.std.specs.Str.{chars}
use Rattle.policy_model.specs.Keys.{IsFolded}
use lib.Utf8.{low_scalar, scalar}
use Rattle.wildcard_lang.specs.Text.{IsText}
use Rattle.policy_load.specs.declared.keys.TheConstants.{KEY_NUMBERS}
use Rattle.policy_load.specs.Loads.{load_key}

pub three_more : (xs : List ℕ) (a b c : ℕ) → ((xs ++ (a ∷ [])) ++ (b ∷ [])) ++ (c ∷ []) ≡ xs ++ (a ∷ b ∷ c ∷ [])
three_more [] a b c = refl
three_more (x ∷ xs) a b c = ap (λ l. x ∷ l) (three_more xs a b c)

pub key_is_text : (n : ℕ) → n < KEY_NUMBERS → IsText (load_key n)
unfolding chars
key_is_text n lt =
    let hundreds : scalar (48 + n / 100) ≡ true = low_scalar (48 + n / 100) (omega arith) in
    let tens : scalar (48 + n / 10 % 10) ≡ true = low_scalar (48 + n / 10 % 10) (omega arith) in
    let ones : scalar (48 + n % 10) ≡ true = low_scalar (48 + n % 10) (omega arith) in
    rw (hundreds, tens, ones) refl

digit_in_lower_case : (d : ℕ) → d < 10 → to_ascii_lowercase (48 + d) ≡ 48 + d
digit_in_lower_case d lt = rw (lt-ltb (48 + d) 65 (omega arith)) refl

pub key_is_folded : (n : ℕ) → n < KEY_NUMBERS → IsFolded (load_key n)
unfolding chars
key_is_folded n lt =
    let hundreds = digit_in_lower_case (n / 100) (omega arith) in
    let tens = digit_in_lower_case (n / 10 % 10) (omega arith) in
    let ones = digit_in_lower_case (n % 10) (omega arith) in
    rw (hundreds, tens, ones) refl
