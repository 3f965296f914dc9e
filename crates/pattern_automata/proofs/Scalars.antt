-- Texts, as lists of scalars one by one.
use Rattle.std.proofs.Common.{ℕ, List, [], ◌∷◌, reverse, All, refl}
use Rattle.std.specs.Char.{IsScalar}
use Rattle.std.proofs.lemmas.Bool.{and_parts, and_from}
use Rattle.std.proofs.lemmas.List.Elements.{All-nil, All-cons, All-head, All-tail}
use Rattle.std.proofs.lemmas.List.Sorted.{All-permutation, IsPermutation-reverse}
use Rattle.wildcard_lang.specs.Text.{IsText}

pub text-from_all : (t : List ℕ) → All IsScalar t → IsText t
text-from_all [] h = refl
text-from_all (c ∷ t) h = and_from _ _ (All-head IsScalar c t h) (text-from_all t (All-tail IsScalar c t h))

pub all-from_text : (t : List ℕ) → IsText t → All IsScalar t
all-from_text [] h = All-nil IsScalar
all-from_text (c ∷ t) h = let both = and_parts _ _ h in All-cons IsScalar c t both.0 (all-from_text t both.1)

pub text-reversed : (t : List ℕ) → All IsScalar t → IsText (reverse t)
text-reversed t h = text-from_all (reverse t) (All-permutation IsScalar t (reverse t) (IsPermutation-reverse t) h)
