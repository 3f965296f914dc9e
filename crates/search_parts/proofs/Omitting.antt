-- Paths without one of their answers.
use Rattle.std.proofs.Common.{◌≡◌, ◌≢◌, ◌==◌, ℕ, [], ◌∷◌, true, false, Some, None, refl, sym, ◌∙◌, inl, inr, arith}
use Rattle.std.proofs.lemmas.Bool.Decides.{nat_tests}
use Rattle.formula_tree.specs.Answers.{Answers, Contained, answer_of}
use Rattle.formula_tree.proofs.Laws.{cases_eq}
use Rattle.tree_values.specs.Omitting.{path_without}

same-test : (k n : ℕ) → k ≡ n → (k == n) ≡ true
same-test k n e = grind (arith, nat_tests)

other-test : (k n : ℕ) → k ≢ n → (k == n) ≡ false
other-test k n e = grind (arith, nat_tests)

pub omitted-none : (path : Answers) (n : ℕ) → answer_of (path_without path n) n ≡ None
omitted-none [] n = refl
omitted-none (p ∷ path) n =
    elim (cases_eq p.0 n) [
      | inl e ↦ rw (same-test p.0 n e) (omitted-none path n)
      | inr ne ↦ rw (other-test p.0 n ne) (rw (other-test p.0 n ne) (omitted-none path n))
    ]

pub omitted-other : (path : Answers) (n k : ℕ) → k ≢ n → answer_of (path_without path n) k ≡ answer_of path k
omitted-other [] n k ne = refl
omitted-other (p ∷ path) n k ne =
    elim (cases_eq p.0 n) [
      | inl e ↦
          let apart : p.0 ≢ k = λ s. ne (sym s ∙ e) in
          rw (same-test p.0 n e, other-test p.0 k apart) (omitted-other path n k ne)
      | inr other ↦ rw (other-test p.0 n other, omitted-other path n k ne) refl
    ]

-- what is left is of the path
pub omitted-within : (path : Answers) (n : ℕ) → Contained (path_without path n) path
omitted-within path n k b h =
    elim (cases_eq k n) [
      | inl e ↦
          let none : answer_of (path_without path n) k ≡ None = rw e (omitted-none path n) in
          let bad : None ≡ Some b = sym none ∙ h in
          absurd (cc)
      | inr ne ↦ sym (omitted-other path n k ne) ∙ h
    ]
