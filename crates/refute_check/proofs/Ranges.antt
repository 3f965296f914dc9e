-- Paths that answer tests in range.
use Rattle.std.proofs.Common.{◌≡◌, ◌<◌, ℕ, List, ◌∷◌, [], length, Bool, Some, All, sym, ◌∙◌, inl, inr, arith}
use Rattle.std.proofs.lemmas.Grind.{common_steps}
use Rattle.std.proofs.lemmas.List.Elements.{All-cons, All-nil}
use Rattle.formula_tree.specs.Answers.{Answers, answer_of}
use Rattle.formula_tree.specs.Runs.{path_with}
use Rattle.formula_tree.proofs.Laws.{answer_of-besides, cases_eq}
use Rattle.policy_model.specs.declared.test.Test.{Test}
use Rattle.slot_theory.specs.Possible.{PathInRange}

-- one more answer to a test in range
pub range_more : (tests : List Test) (path : Answers) (n : ℕ) (b : Bool) → PathInRange tests path → n < length tests → PathInRange tests (path_with path n b)
range_more tests path n b before within m c is =
    elim (cases_eq m n) [
      | inl same ↦ omega (arith, same)
      | inr other ↦ before m c (sym (answer_of-besides path n b m other) ∙ is)
    ]

-- the answers behind the first one
rest-in-range : (tests : List Test) (p : ℕ × Bool) (path : Answers) → PathInRange tests (p ∷ path) → PathInRange tests path
rest-in-range tests p path range n b is =
    elim (cases_eq p.0 n) [
      | inl same ↦ let own : answer_of (p ∷ path) n ≡ Some p.1 = grind (arith, common_steps) in range n p.1 own
      | inr other ↦ let own : answer_of (p ∷ path) n ≡ Some b = grind (arith, common_steps) in range n b own
    ]

-- each answered test is in range
pub all-in-range : (tests : List Test) (path : Answers) → PathInRange tests path → All (λ p. p.0 < length tests) path
all-in-range tests [] range = All-nil (λ (p : ℕ × Bool). p.0 < length tests)
all-in-range tests (p ∷ path) range =
    let own : answer_of (p ∷ path) p.0 ≡ Some p.1 = grind (arith, common_steps) in
    All-cons (λ (p : ℕ × Bool). p.0 < length tests) p path (range p.0 p.1 own) (all-in-range tests path (rest-in-range tests p path range))
