-- Lists of answers that grow and shrink at their end, and the same by test numbers.
use Rattle.std.proofs.Common.{◌≡◌, ℕ, ◌<◌, ◌==◌, ◌≢◌, List, [], ◌∷◌, ◌++◌, length, get_or, set, Bool, false, Option, Some, None, zero, suc, ◌⊎◌, refl, sym, ◌∙◌, inl, inr, arith, nat_eq, get_or-set_same, get_or-set_other}
use Rattle.std.proofs.lemmas.Bool.{cases_lt}
use Rattle.std.proofs.lemmas.Bool.Decides.{nat_tests}
use Rattle.std.proofs.lemmas.Grind.{common_steps}
use Rattle.formula_tree.specs.Answers.{Answers, answer_of, IsDistinct, IsByTest}

pub answer_of-more : (ps qs : Answers) (n : ℕ) (b : Bool) → answer_of ps n ≡ Some b → answer_of (ps ++ qs) n ≡ Some b
answer_of-more [] qs n b h = absurd (cc)
answer_of-more (p ∷ ps) qs n b h = grind (arith, common_steps, answer_of-more ps qs n b)

pub answer_of-rest : (ps qs : Answers) (n : ℕ) → answer_of ps n ≡ None → answer_of (ps ++ qs) n ≡ answer_of qs n
answer_of-rest [] qs n h = refl
answer_of-rest (p ∷ ps) qs n h = grind (arith, common_steps, answer_of-rest ps qs n)

-- an answer of a longer list is of its first part, or of its last where the first has none
none_front : (ps qs : Answers) (n : ℕ) → answer_of (ps ++ qs) n ≡ None → answer_of ps n ≡ None
none_front [] qs n h = refl
none_front (p ∷ ps) qs n h = grind (arith, common_steps, none_front ps qs n)

not_last : (ps : Answers) (p : ℕ × Bool) (n : ℕ) → answer_of (ps ++ p ∷ []) n ≡ None → (p.0 == n) ≡ false
not_last [] p n h = grind (arith, common_steps)
not_last (q ∷ ps) p n h = grind (arith, common_steps, not_last ps p n)

-- the last answer of a list where no test stands twice
pub distinct-front : (ps : Answers) (p : ℕ × Bool) → IsDistinct (ps ++ p ∷ []) → IsDistinct ps
distinct-front [] p h = tt
distinct-front (q ∷ ps) p h = (none_front ps (p ∷ []) q.0 h.0, distinct-front ps p h.1)

other : (p q : ℕ × Bool) → (p.0 == q.0) ≡ false → (q.0 == p.0) ≡ false
other p q h = grind (arith, nat_tests)

pub distinct-last : (ps : Answers) (p : ℕ × Bool) → IsDistinct (ps ++ p ∷ []) → answer_of ps p.0 ≡ None
distinct-last [] p h = refl
distinct-last (q ∷ ps) p h = grind (arith, common_steps, distinct-last ps p h.1, other p q (not_last ps p q.0 h.0))

pub distinct-more : (ps : Answers) (p : ℕ × Bool) → IsDistinct ps → answer_of ps p.0 ≡ None → IsDistinct (ps ++ p ∷ [])
distinct-more [] p h new = (refl, tt)
distinct-more (q ∷ ps) p h new =
    let apart : (q.0 == p.0) ≡ false = grind (arith, common_steps) in
    let rest : answer_of ps p.0 ≡ None = grind (arith, common_steps) in
    let turned : (p.0 == q.0) ≡ false = other q p apart in
    (answer_of-rest ps (p ∷ []) q.0 h.0 ∙ grind (arith, common_steps), distinct-more ps p h.1 rest)

other_number : (n k : ℕ) → k ≢ n → nat_eq n k ≡ false
other_number n k h = grind (arith, nat_tests)

pub cases_eq : (k n : ℕ) → (k ≡ n) ⊎ (k ≢ n)
cases_eq k n = elim (cases_lt k n) [ inl l ↦ inr (λ e. omega arith) | inr g ↦ elim (cases_lt n k) [ inl l ↦ inr (λ e. omega arith) | inr h ↦ inl (omega arith) ] ]

pub answer_of-besides : (ps : Answers) (n : ℕ) (b : Bool) (k : ℕ) → k ≢ n → answer_of (ps ++ (n, b) ∷ []) k ≡ answer_of ps k
answer_of-besides [] n b k ne = let e = other_number n k ne in grind (arith, common_steps)
answer_of-besides (p ∷ ps) n b k ne = grind (arith, common_steps, answer_of-besides ps n b k ne)

pub answer_of-last : (ps : Answers) (n : ℕ) (b : Bool) → answer_of ps n ≡ None → answer_of (ps ++ (n, b) ∷ []) n ≡ Some b
answer_of-last ps n b new = let one : answer_of ((n, b) ∷ []) n ≡ Some b = grind (arith, nat_tests) in answer_of-rest ps ((n, b) ∷ []) n new ∙ one

past : (by_test : List (Option Bool)) (n : ℕ) (b : Bool) → get_or by_test n None ≡ Some b → n < length by_test
past [] n b h = absurd (cc)
past (x ∷ xs) zero b h = omega arith
past (x ∷ xs) (suc n) b h = omega (arith, past xs n b h)

pub by_test-room : (ps : Answers) (by_test : List (Option Bool)) (n : ℕ) (b : Bool) → IsByTest (ps ++ (n, b) ∷ []) by_test → n < length by_test
by_test-room ps by_test n b kept =
    let one : answer_of ((n, b) ∷ []) n ≡ Some b = grind (arith, nat_tests) in
    past by_test n b (kept.same n ∙ answer_of-rest ps ((n, b) ∷ []) n (distinct-last ps (n, b) kept.distinct) ∙ one)

pub by_test-push : (ps : Answers) (by_test : List (Option Bool)) (n : ℕ) (b : Bool) → IsByTest ps by_test → answer_of ps n ≡ None → n < length by_test → IsByTest (ps ++ (n, b) ∷ []) (set by_test n (Some b))
by_test-push ps by_test n b kept new room = record {
  distinct = distinct-more ps (n, b) kept.distinct new;
  same = λ k.
      elim (cases_eq k n) [
        | inl e ↦ rw (e, get_or-set_same by_test n (Some b) None room, answer_of-rest ps ((n, b) ∷ []) n new) (grind (arith, nat_tests))
        | inr ne ↦ get_or-set_other by_test n k (Some b) None ne ∙ kept.same k ∙ sym (answer_of-besides ps n b k ne)
      ];
}

pub by_test-pop : (ps : Answers) (by_test : List (Option Bool)) (n : ℕ) (b : Bool) → IsByTest (ps ++ (n, b) ∷ []) by_test → IsByTest ps (set by_test n None)
by_test-pop ps by_test n b kept = record {
  distinct = distinct-front ps (n, b) kept.distinct;
  same = λ k.
      elim (cases_eq k n) [
        | inl e ↦ rw (e, get_or-set_same by_test n None None (by_test-room ps by_test n b kept), distinct-last ps (n, b) kept.distinct) refl
        | inr ne ↦ get_or-set_other by_test n k None None ne ∙ kept.same k ∙ answer_of-besides ps n b k ne
      ];
}

pub by_test-same : (ps : Answers) (old new : List (Option Bool)) → IsByTest ps old → ((n : ℕ) → get_or new n None ≡ get_or old n None) → IsByTest ps new
by_test-same ps old new kept same = record { distinct = kept.distinct; same = λ k. same k ∙ kept.same k }
