-- The pattern of the ids of an account.
use Rattle.std.proofs.Common.{◌≡◌, ◌++◌, ◌∷◌, ◌≤◌, ℕ, List, [], length, false, All, codes, refl, ◌∙◌, ap, arith, append_assoc, length-append, take}
use Rattle.std.specs.Char.{IsAsciiDigit}
use Rattle.std.proofs.lemmas.Bool.{and_from}
use Rattle.std.proofs.lemmas.Bool.Decides.{nat_tests}
use Rattle.std.proofs.lemmas.List.{take_all}
use Rattle.std.proofs.lemmas.List.Elements.{All-head, All-tail}
use Rattle.wildcard_lang.specs.declared.piece.Piece.{Piece}
use Rattle.wildcard_lang.specs.declared.piece.Piece.TheVariants.{Lit, Many}
use Rattle.wildcard_lang.specs.Patterns.{IsPattern}
use Rattle.wildcard_lang.specs.Reading.{literals}
use Rattle.wildcard_lang.specs.Text.{IsText}
use Rattle.wildcard_lang.proofs.Laws.{IsPattern-append, IsPattern-literals, narrow-literals}
use Rattle.policy_model.specs.Soundness.{IsAccount}
use Rattle.slot_theory.specs.Entries.{account_pattern, any_part}

-- the pieces before the account
abbrev pub before : List Piece
before = literals false (codes "arn:") ++ (any_part ++ (any_part ++ any_part))

-- and those behind it
abbrev behind : List Piece
behind = Lit 58 ∷ Many ∷ []

digits-text : (cs : List ℕ) → All IsAsciiDigit cs → IsText cs
digits-text [] h = refl
digits-text (c ∷ cs) h =
    let digit = All-head IsAsciiDigit c cs h in
    and_from _ _ (grind (arith, nat_tests, digit)) (digits-text cs (All-tail IsAsciiDigit c cs h))

length-literals : (cs : List ℕ) → length (literals false cs) ≡ length cs
length-literals [] = refl
length-literals (c ∷ cs) = omega (arith, length-literals cs)

before-is-pattern : IsPattern before
before-is-pattern = record { fits = omega arith; scalars = refl; lower = refl; narrow = refl }

behind-is-pattern : IsPattern behind
behind-is-pattern = record { fits = omega arith; scalars = refl; lower = refl; narrow = refl }

pub account-is-pattern : (account : List ℕ) → IsAccount account → IsPattern (account_pattern account)
account-is-pattern account is =
    let count : length (literals false account) ≡ 12 = length-literals account ∙ is.count in
    let own : IsPattern (literals false account) = IsPattern-literals false account (digits-text account is.digits) (omega (arith, is.count)) in
    let rest : IsPattern (literals false account ++ behind) =
    IsPattern-append (literals false account) behind (narrow-literals account) own behind-is-pattern (omega (arith, count, length-append (literals false account) behind)) in
    IsPattern-append before (literals false account ++ behind) refl before-is-pattern rest (omega (arith, count, length-append (literals false account) behind))

-- what is made of the characters of the account, and the two pieces behind it
pub account-made : (account view : List ℕ) (i : ℕ) (own colon made : List Piece) → view ≡ account → length view ≤ i → own ≡ before ++ literals false (take i account) → colon ≡ own ++ Lit 58 ∷ [] → made ≡ colon ++ Many ∷ [] → made ≡ account_pattern account
account-made account view i own colon made same end is first second =
    let all : take i account ≡ account = take_all i account (omega (arith, end, ap length same)) in
    let pieces : own ≡ before ++ literals false account = is ∙ ap (λ (t : List ℕ). before ++ literals false t) all in
    rw (second, first, pieces) (append_assoc (before ++ literals false account) (Lit 58 ∷ []) (Many ∷ []) ∙ append_assoc before (literals false account) behind)
