-- Clauses that a truth of every variable satisfies.
use Rattle.std.proofs.Common.{◌≡◌, ℕ, zero, suc, [], ◌∷◌, ◌++◌, List, map, Bool, true, false, not, Some, ◌⊎◌, inl, inr, refl, ◌∙◌, subst, arith, nat_eq}
use Rattle.std.proofs.lemmas.Bool.{cases_Bool}
use Rattle.std.proofs.lemmas.Bool.Decides.{nat_tests}
use Rattle.std.proofs.lemmas.List.Elements.{Contains-append_left, Contains-append_right, Contains-append_cases, Contains-push}
use Rattle.formula_tree.specs.Answers.{Answers, Completes}
use Rattle.cnf_clauses.specs.Literals.{AreSatisfied, Clause, IsSatisfied, Literal, complement}

same-or-other : (a b : Bool) → (a ≡ b) ⊎ (a ≡ not b)
same-or-other true true = inl refl
same-or-other true false = inr refl
same-or-other false true = inr refl
same-or-other false false = inl refl

completes-front : (truth : ℕ → Bool) (l : Literal) (rest : Answers) → truth l.0 ≡ l.1 → Completes truth rest → Completes truth (l ∷ rest)
completes-front truth l rest is full n b h =
    elim (cases_Bool (nat_eq l.0 n)) [
      | inl e ↦
          let here : Some l.1 ≡ Some b = (rw e at h) in
          let value : l.1 ≡ b = cc in
          let number : l.0 ≡ n = grind (arith, nat_tests) in
          subst (λ (x : ℕ). truth x ≡ b) number (is ∙ value)
      | inr e ↦ full n b (rw e at h)
    ]

-- a clause is satisfied, or each of its literals is false
pub satisfied-or-false : (truth : ℕ → Bool) (c : Clause) → IsSatisfied truth c ⊎ Completes truth (map complement c)
satisfied-or-false truth [] = inr (λ n b h. absurd (cc))
satisfied-or-false truth (l ∷ c) =
    elim (satisfied-or-false truth c) [
      | inl (m, stands, is) ↦ inl (m, Contains-append_right (l ∷ []) c m stands, is)
      | inr full ↦
          elim (same-or-other (truth l.0) l.1) [
            | inl is ↦ inl (l, Contains-append_left (l ∷ []) c l (Contains-push [] l), is)
            | inr is ↦ inr (completes-front truth (complement l) (map complement c) is full)
          ]
    ]

-- the empty clause is satisfied by nothing
pub empty-unsatisfied : (truth : ℕ → Bool) (c : Clause) → c ≡ [] → IsSatisfied truth c → ⊥
empty-unsatisfied truth [] empty (m, (k, small, is), value) = absurd (omega (arith, small))
empty-unsatisfied truth (l ∷ c) empty satisfied = absurd (cc)

one-satisfied : (truth : ℕ → Bool) (c : Clause) → IsSatisfied truth c → AreSatisfied truth (c ∷ [])
one-satisfied truth c satisfied d (zero, small, is) = rw (← is) satisfied
one-satisfied truth c satisfied d (suc k, small, is) = absurd (omega (arith, small))

-- one more satisfied clause
pub more-satisfied : (truth : ℕ → Bool) (cs : List Clause) (c : Clause) → AreSatisfied truth cs → IsSatisfied truth c → AreSatisfied truth (cs ++ c ∷ [])
more-satisfied truth cs c good satisfied d stands =
    elim (Contains-append_cases cs (c ∷ []) d stands) [ inl there ↦ good d there | inr there ↦ one-satisfied truth c satisfied d there ]
