-- What `{:x}` writes of a group.
use Rattle.std.proofs.Common.{◌≡◌, ◌≢◌, ℕ, suc, ◌/◌, ◌%◌, ◌^◌, ◌<◌, ◌≤◌, true, false, List, [], ◌∷◌, ◌++◌, append-nil, length, get_or, flat_map, length-drop, lit≤, refl, sym, ◌∙◌, arith, inl, inr, le-leb, eq-eqb, ne_eqb}
use Rattle.std.proofs.lemmas.Bool.{cases_lt, lt-leb}
use Rattle.std.specs.Char.{digit_char}
use Rattle.std.specs.Fmt.{digits, digits_onto}
use Rattle.std.specs.Net.Text.{hex, groups_text, leading_zero_digits}
use Rattle.std.specs.Net.Grammar.{IsGroup, IsGroupsAfter, IsGroups}
use Rattle.std.proofs.lemmas.Fmt.{digits_is_IsNumeral}

-- the number has one digit left
done : (k n : ℕ) (acc : List ℕ) → n / 16 ≡ 0 → digits_onto (suc k) 16 false n acc ≡ digit_char (n % 16) ∷ acc
done k n acc e = rw (eq-eqb (n / 16) 0 e)

-- or more
more : (k n : ℕ) (acc : List ℕ) → n / 16 ≢ 0 → digits_onto (suc k) 16 false n acc ≡ digits_onto k 16 false (n / 16) (digit_char (n % 16) ∷ acc)
more k n acc e = rw (ne_eqb (n / 16) 0 e)

pub hex_is_digits : (n : ℕ) → n < 2 ^ 16 → hex n ≡ digits 16 false n
unfolding hex digits
hex_is_digits n fits =
    let d₁ : n / 16 % 16 ≡ n / 0x10 % 16 = refl in
    let d₂ : n / 0x100 % 16 ≡ n / 16 / 16 % 16 = omega arith in
    let d₃ : n / 0x1000 ≡ n / 16 / 16 / 16 % 16 = omega arith in
    elim (cases_lt n 0x1000) [
      | inr four ↦ rw (le-leb 0x1000 n four, d₂, d₃) (sym (more 63 n _ (omega arith) ∙ more 62 (n / 16) _ (omega arith) ∙ more 61 (n / 16 / 16) _ (omega arith) ∙ done 60 (n / 16 / 16 / 16) _ (omega arith)))
      | inl h₃ ↦ elim (cases_lt n 0x100) [
        | inr three ↦ rw (lt-leb 0x1000 n h₃, le-leb 0x100 n three, d₂) (sym (more 63 n _ (omega arith) ∙ more 62 (n / 16) _ (omega arith) ∙ done 61 (n / 16 / 16) _ (omega arith)))
        | inl h₂ ↦ elim (cases_lt n 0x10) [
          | inr two ↦ rw (lt-leb 0x1000 n h₃, lt-leb 0x100 n h₂, le-leb 0x10 n two) (sym (more 63 n _ (omega arith) ∙ done 62 (n / 16) _ (omega arith)))
          | inl h₁ ↦ rw (lt-leb 0x1000 n h₃, lt-leb 0x100 n h₂, lt-leb 0x10 n h₁) (sym (done 63 n _ (omega arith)))
        ]
      ]
    ]

pub four_groups : (a b c d : List ℕ) → a ++ (58 ∷ (b ++ (58 ∷ (c ++ (58 ∷ d))))) ≡ a ++ (58 ∷ (b ++ (58 ∷ (c ++ (58 ∷ (d ++ []))))))
four_groups a b c d = simp append-nil

length-hex : (n : ℕ) → length (hex n) ≤ 4
unfolding hex
length-hex n = omega (arith, length-drop (leading_zero_digits n) (digit_char (n / 0x1000) ∷ digit_char (n / 0x100 % 16) ∷ digit_char (n / 0x10 % 16) ∷ digit_char (n % 16) ∷ []))

-- what is written for a group is a group
IsGroup-hex : (n : ℕ) → n < 2 ^ 16 → IsGroup (hex n) n
IsGroup-hex n fits =
    let number = digits_is_IsNumeral 16 false (lit≤ tt) (lit≤ tt) n (omega arith) in
    (rw (hex_is_digits n fits) number, length-hex n)

abbrev pub AllFit : List ℕ → Type 0
AllFit xs = (k : ℕ) → get_or xs k 0 < 2 ^ 16

more_groups : (xs : List ℕ) → AllFit xs → IsGroupsAfter true (58 ∷ []) (flat_map (λ t. 58 ∷ hex t) xs) xs
more_groups [] h = refl
more_groups (x ∷ xs) h = inl (hex x, _, refl, IsGroup-hex x (h 0), more_groups xs (λ j. h (suc j)))

-- and what is written for groups is groups
pub IsGroups-groups_text : (xs : List ℕ) → AllFit xs → IsGroups true (groups_text xs) xs
IsGroups-groups_text [] h = refl
IsGroups-groups_text (x ∷ xs) h = inl (hex x, _, refl, IsGroup-hex x (h 0), more_groups xs (λ j. h (suc j)))
