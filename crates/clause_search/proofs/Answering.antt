-- The answers of a path, one by one.
use Rattle.std.proofs.Common.{◌≡◌, ℕ, ◌<◌, List, [], ◌∷◌, length, zero, suc, Bool, Option, Some, None, IsSome, All, slice_get, refl, subst, inl, inr, arith}
use Rattle.std.proofs.lemmas.Grind.{common_steps}
use Rattle.std.proofs.lemmas.List.Elements.{All-head, All-tail}
use Rattle.formula_tree.specs.Answers.{Answers, answer_of}
use Rattle.formula_tree.proofs.Laws.{cases_eq}
use Rattle.policy_model.specs.declared.test.Test.{Test}
use Rattle.slot_theory.specs.Possible.{PathInRange}

some-of : (o : Option Bool) → IsSome o → (b : Bool) × (o ≡ Some b)
some-of (Some b) h = (b, refl)
some-of None h = absurd (cc)

-- what stands in a path is answered
pub answered-at : (path : Answers) (i : ℕ) (p : ℕ × Bool) → Some p ≡ slice_get path i → IsSome (answer_of path p.0)
answered-at [] i p e = absurd (cc)
answered-at (q ∷ path) zero p e =
    let same : p ≡ q = cc in
    let own : answer_of (q ∷ path) q.0 ≡ Some q.1 = grind (arith, common_steps) in
    rw (same, own) refl
answered-at (q ∷ path) (suc i) p e =
    let rest : IsSome (answer_of path p.0) = answered-at path i p e in
    elim (cases_eq q.0 p.0) [
      | inl same ↦ let own : answer_of (q ∷ path) p.0 ≡ Some q.1 = grind (arith, common_steps) in rw own refl
      | inr other ↦ let own : answer_of (q ∷ path) p.0 ≡ answer_of path p.0 = grind (arith, common_steps) in rw own rest
    ]

-- what holds of each that stands in a path holds of each that is answered
pub at-answered : (P : ℕ → Type 0) (path : Answers) (n : ℕ) → All (λ (p : ℕ × Bool). P p.0) path → IsSome (answer_of path n) → P n
at-answered P [] n all h = absurd (cc)
at-answered P (p ∷ path) n all h =
    elim (cases_eq p.0 n) [
      | inl same ↦ subst P same (All-head (λ (q : ℕ × Bool). P q.0) p path all)
      | inr other ↦
          let own : answer_of (p ∷ path) n ≡ answer_of path n = grind (arith, common_steps) in
          at-answered P path n (All-tail (λ (q : ℕ × Bool). P q.0) p path all) (rw (← own) h)
    ]

-- a path each of whose tests is in range
pub in-range : (tests : List Test) (path : Answers) → All (λ (p : ℕ × Bool). p.0 < length tests) path → PathInRange tests path
in-range tests path all n b e = at-answered (λ k. k < length tests) path n all (rw e refl)

-- what a path in range answers is in range
pub within-range : (tests : List Test) (path : Answers) (n : ℕ) → PathInRange tests path → IsSome (answer_of path n) → n < length tests
within-range tests path n range h = let (b, e) = some-of (answer_of path n) h in range n b e
