-- Texts stay texts, and lowered letters stay lowered.
use Rattle.std.proofs.Common.{◌≡◌, ℕ, true, List, [], ◌∷◌, refl, rules, tests, arith}
use Rattle.std.proofs.lemmas.Bool.Decides.{nat_tests}
use Rattle.std.specs.Char.{to_ascii_lowercase}
use Rattle.std.proofs.Math.Utf8.{scalar}
use Rattle.wildcard_lang.specs.Text.{IsText, folded_text}

pub scalar-lowercase : (c : ℕ) → scalar c ≡ true → scalar (to_ascii_lowercase c) ≡ true
scalar-lowercase c h = search (rules, tests)

pub IsText-folded : (t : List ℕ) → IsText t → IsText (folded_text t)
IsText-folded [] h = refl
IsText-folded (c ∷ t) h = search (rules, tests, scalar-lowercase c, IsText-folded t)

pub lower_lower : (c : ℕ) → to_ascii_lowercase (to_ascii_lowercase c) ≡ to_ascii_lowercase c
lower_lower c = grind (arith, nat_tests)

pub folded-folded : (t : List ℕ) → folded_text (folded_text t) ≡ folded_text t
folded-folded [] = refl
folded-folded (c ∷ t) = rw (lower_lower c, folded-folded t) refl
