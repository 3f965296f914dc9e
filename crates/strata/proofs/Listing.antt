-- Rising lists of the numbers that pass.
use Rattle.std.proofs.Common.{◌≡◌, ℕ, ◌+◌, ◌<◌, ◌≤◌, List, [], ◌∷◌, ◌++◌, length, true, nat_le, Contains, All, refl, sym, ap, ◌∙◌, subst, inl, inr, arith}
use Rattle.std.proofs.lemmas.Bool.{and_from, and_parts, cases_lt}
use Rattle.std.proofs.lemmas.Bool.Decides.{nat_tests}
use Rattle.std.proofs.lemmas.List.{get_or_append_left, get_or_push, length_push}
use Rattle.std.proofs.lemmas.List.Elements.{All-contains, All-head, All-nil, All-push, All-tail, All-weaker, Contains-append_left, Contains-push, Contains-push_cases}
use Rattle.pattern_automata.specs.Closed.{rises_from}
use Rattle.strata.specs.declared.rows.Row.{Row}
use Rattle.strata.specs.Rows.{AreListed, AreMaximalByRows, IsMaximalByRows}

le-true : (a b : ℕ) → a ≤ b → nat_le a b ≡ true
le-true a b h = grind (arith, nat_tests)

rises-push : (xs : List ℕ) (a n : ℕ) → rises_from a xs ≡ true → All (λ j. j < n) xs → a ≤ n → rises_from a (xs ++ n ∷ []) ≡ true
rises-push [] a n rise within h = and_from (nat_le a n) true (le-true a n h) refl
rises-push (x ∷ xs) a n rise within h =
    let both = and_parts (nat_le a x) (rises_from (x + 1) xs) rise in
    let below : x < n = All-head (λ j. j < n) x xs within in
    and_from (nat_le a x) (rises_from (x + 1) (xs ++ n ∷ [])) both.0 (rises-push xs (x + 1) n both.1 (All-tail (λ j. j < n) x xs within) (omega arith))

pub listed-none : (P : ℕ → Type 0) → AreListed P 0 []
listed-none P = record { rise = refl; within = All-nil (λ j. j < 0); exact = λ j l. absurd (omega arith) }

-- one more number that passes
pub listed-push : (P : ℕ → Type 0) (n : ℕ) (numbers : List ℕ) → AreListed P n numbers → P n → AreListed P (n + 1) (numbers ++ n ∷ [])
listed-push P n numbers h p = record {
  rise = rises-push numbers 0 n h.rise h.within (omega arith);
  within = All-push (λ j. j < n + 1) numbers n (All-weaker (λ j. j < n) (λ j. j < n + 1) (λ j l. omega arith) numbers h.within) (omega arith);
  exact = λ j l. elim (cases_lt j n) [
    | inl before ↦ (
      λ here. elim (Contains-push_cases numbers n j here) [ inl old ↦ (h.exact j before).0 old | inr last ↦ subst P last p ],
      λ holds. Contains-append_left numbers (n ∷ []) j ((h.exact j before).1 holds),
    )
    | inr past ↦
        let same : n ≡ j = omega arith in
        (λ here. subst P same p, λ holds. subst (λ (m : ℕ). Contains (numbers ++ n ∷ []) m) same (Contains-push numbers n))
  ];
}

-- and one that doesn't
pub listed-skip : (P : ℕ → Type 0) (n : ℕ) (numbers : List ℕ) → AreListed P n numbers → (P n → ⊥) → AreListed P (n + 1) numbers
listed-skip P n numbers h not = record {
  rise = h.rise;
  within = All-weaker (λ j. j < n) (λ j. j < n + 1) (λ j l. omega arith) numbers h.within;
  exact = λ j l. elim (cases_lt j n) [
    | inl before ↦ h.exact j before
    | inr past ↦
        let same : j ≡ n = omega arith in
        (λ here. absurd (past-none n numbers j h.within here (omega arith)), λ holds. absurd (not (subst P same holds)))
  ];
}
  where
    past-none : (n : ℕ) (numbers : List ℕ) (j : ℕ) → All (λ i. i < n) numbers → Contains numbers j → n ≤ j → ⊥
    past-none n numbers j within here h = omega (arith, All-contains (λ i. i < n) numbers j within here)

pub told-none : (rows : List Row) → AreMaximalByRows rows 0 []
told-none rows = record { count = refl; each = λ i d l. absurd (omega arith) }

pub told-push : (rows : List Row) (n : ℕ) (lists : List (List ℕ)) (numbers : List ℕ) → AreMaximalByRows rows n lists → AreListed (IsMaximalByRows rows n) (length rows) numbers → AreMaximalByRows rows (n + 1) (lists ++ numbers ∷ [])
told-push rows n lists numbers h listed = record {
  count = length_push lists numbers ∙ ap (λ m. m + 1) h.count;
  each = λ i d l. elim (cases_lt i n) [
    | inl before ↦ subst (λ (ns : List ℕ). AreListed (IsMaximalByRows rows i) (length rows) ns) (sym (get_or_append_left lists (numbers ∷ []) d i (omega (arith, h.count)))) (h.each i d before)
    | inr past ↦
        let same : n ≡ i = omega arith in
        subst (λ (ns : List ℕ). AreListed (IsMaximalByRows rows i) (length rows) ns) (sym (get_or_push lists numbers d i (h.count ∙ same))) (subst (λ (m : ℕ). AreListed (IsMaximalByRows rows m) (length rows) numbers) same listed)
  ];
}

-- all numbers were looked at
pub listed-end : (P : ℕ → Type 0) (n : ℕ) (rows : List Row) (numbers : List ℕ) → n ≤ length rows → length rows ≤ n → AreListed P n numbers → AreListed P (length rows) numbers
listed-end P n rows numbers low high h = let same : n ≡ length rows = omega arith in subst (λ (m : ℕ). AreListed P m numbers) same h

pub told-end : (rows : List Row) (n : ℕ) (lists : List (List ℕ)) → n ≤ length rows → length rows ≤ n → AreMaximalByRows rows n lists → AreMaximalByRows rows (length rows) lists
told-end rows n lists low high h = let same : n ≡ length rows = omega arith in subst (λ (m : ℕ). AreMaximalByRows rows m lists) same h
