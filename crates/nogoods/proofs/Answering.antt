-- Answers of a list, by their indices in it.
use Rattle.std.proofs.Common.{◌≡◌, ℕ, ◌<◌, ◌≤◌, ◌==◌, [], ◌∷◌, length, get_or, Bool, true, false, Some, None, zero, suc, refl, sym, subst, arith, if◌then◌else◌}
use Rattle.std.proofs.lemmas.Bool.Decides.{nat_tests}
use Rattle.std.proofs.lemmas.Grind.{common_steps}
use Rattle.formula_tree.specs.Answers.{Answers, answer_of, IsDistinct, Contained}

-- where a list has an answer, it has it at an index
pub answer_of-found : (ps : Answers) (n : ℕ) (b : Bool) → answer_of ps n ≡ Some b → (k : ℕ) × (k < length ps) × ((d : ℕ × Bool) → get_or ps k d ≡ (n, b))
answer_of-found [] n b h = absurd (cc)
answer_of-found (p ∷ ps) n b h = elim (p.0 == n) as (λ v. (p.0 == n) ≡ v → (if v then Some p.1 else answer_of ps n) ≡ Some b → (k : ℕ) × (k < suc (length ps)) × ((d : ℕ × Bool) → get_or (p ∷ ps) k d ≡ (n, b))) [
  | true ↦ λ e g. (0, omega arith, λ d. let same : p.0 ≡ n = grind (arith, nat_tests) in let value : p.1 ≡ b = grind (arith, common_steps) in same_pair p n b same value)
  | false ↦ λ e g. let rest = answer_of-found ps n b g in (suc rest.0, omega (arith, rest.1), λ d. rest.2 d)
] refl h
  where
    same_pair : (p : ℕ × Bool) (n : ℕ) (b : Bool) → p.0 ≡ n → p.1 ≡ b → p ≡ (n, b)
    same_pair (m, c) n b e f = cc

later_test : (p : ℕ × Bool) (ps : Answers) (n : ℕ) (b : Bool) → answer_of ps p.0 ≡ None → answer_of ps n ≡ Some b → answer_of (p ∷ ps) n ≡ Some b
later_test p ps n b new h = grind (arith, nat_tests, common_steps)

-- the answer at an index is the answer to its test
pub answer_of-at : (ps : Answers) (k : ℕ) (d : ℕ × Bool) → IsDistinct ps → k < length ps → answer_of ps (get_or ps k d).0 ≡ Some (get_or ps k d).1
answer_of-at [] k d distinct lt = absurd (omega arith)
answer_of-at (p ∷ ps) zero d distinct lt = grind (arith, nat_tests)
answer_of-at (p ∷ ps) (suc k) d distinct lt = later_test p ps _ _ distinct.0 (answer_of-at ps k d distinct.1 (omega arith))

pub contained-all : (few many : Answers) → ((k : ℕ) (d : ℕ × Bool) → k < length few → answer_of many (get_or few k d).0 ≡ Some (get_or few k d).1) → Contained few many
contained-all few many every n b h =
    let found = answer_of-found few n b h in
    let P : ℕ × Bool → Type 0 = λ p. answer_of many p.0 ≡ Some p.1 in
    subst P (found.2 (n, b)) (every found.0 (n, b) found.1)

-- the same of a copy of the answers
pub contained-all-in : (items few many : Answers) (n : ℕ) → items ≡ few → length items ≤ n → ((k : ℕ) (d : ℕ × Bool) → k < n → answer_of many (get_or items k d).0 ≡ Some (get_or items k d).1) → Contained few many
contained-all-in items few many n e le all = let P : Answers → Type 0 = λ xs. Contained xs many in subst P e (contained-all items many (λ k d lt. all k d (omega (arith, lt, le))))

pub answer_of-at-in : (items few : Answers) (k : ℕ) (d : ℕ × Bool) → items ≡ few → IsDistinct few → k < length items → answer_of few (get_or items k d).0 ≡ Some (get_or items k d).1
answer_of-at-in items few k d e distinct lt = let P : Answers → Type 0 = λ xs. k < length xs → answer_of few (get_or xs k d).0 ≡ Some (get_or xs k d).1 in subst P (sym e) (λ within. answer_of-at few k d distinct within) lt
