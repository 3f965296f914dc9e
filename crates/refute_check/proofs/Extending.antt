-- Paths that valid requests answer: fewer answers are answered too, and a request answers one more test one way.
use Rattle.std.proofs.Common.{◌≡◌, ℕ, List, [], ◌∷◌, slice_get, Bool, true, false, Some, None, MatchBool, ◌⊎◌, ◌∙◌, sym, subst, inl, inr}
use Rattle.std.proofs.lemmas.Bool.{cases_Bool}
use Rattle.formula_tree.specs.Answers.{Answers, Contained, answer_of}
use Rattle.formula_tree.specs.Runs.{CanGoOn, IsHarderAlong, path_with}
use Rattle.formula_tree.proofs.Laws.{answer_of-besides, answer_of-last, answer_of-more, cases_eq}
use Rattle.policy_model.specs.declared.request.Request.{Request}
use Rattle.policy_model.specs.declared.schema.Schema.{Schema}
use Rattle.policy_model.specs.declared.test.Test.{Test}
use Rattle.policy_model.specs.Tests.{TestHolds}
use Rattle.slot_theory.specs.Possible.{AnswersPath, IsPossible}
use Rattle.slot_theory.specs.Slots.{test_at}
use Rattle.slot_theory.proofs.Laws.{at-test}
use Rattle.refute_check.proofs.Deciding.{holds_on, test-decided}

some-same : (b c : Bool) → Some b ≡ Some c → b ≡ c
some-same b c e = cc

-- what answers many answers few
pub answers-few : (tests : List Test) (few many : Answers) (r : Request) → Contained few many → AnswersPath tests many r → AnswersPath tests few r
answers-few tests few many r inside answers n b t given at = answers n b t (inside n b given) at

-- and so what answers one more test
pub answers-before : (tests : List Test) (path : Answers) (n : ℕ) (b : Bool) (r : Request) → AnswersPath tests (path_with path n b) r → AnswersPath tests path r
answers-before tests path n b r = answers-few tests path (path_with path n b) r (λ m c given. answer_of-more path ((n, b) ∷ []) m c given)

-- a request that answers the path and one more test so
pub answers-more : (tests : List Test) (path : Answers) (n : ℕ) (b : Bool) (r : Request) → answer_of path n ≡ None → ((t : Test) → slice_get tests n ≡ Some t → MatchBool b (TestHolds r t) (¬ TestHolds r t)) → AnswersPath tests path r → AnswersPath tests (path_with path n b) r
answers-more tests path n b r new is before m c t given at =
    elim (cases_eq m n) [
      | inl same ↦
          let last : answer_of (path_with path n b) m ≡ Some b = subst (λ (k : ℕ). answer_of (path_with path n b) k ≡ Some b) (sym same) (answer_of-last path n b new) in
          subst (λ (x : Bool). MatchBool x (TestHolds r t) (¬ TestHolds r t)) (some-same b c (sym last ∙ given)) (is t (subst (λ (k : ℕ). slice_get tests k ≡ Some t) same at))
      | inr other ↦ before m c t (sym (answer_of-besides path n b m other) ∙ given) at
    ]

decides-at : (tests : List Test) (n : ℕ) (b : Bool) (r : Request) → holds_on r (test_at tests n) ≡ b → (t : Test) → slice_get tests n ≡ Some t → MatchBool b (TestHolds r t) (¬ TestHolds r t)
decides-at tests n b r e t at =
    let own : holds_on r t ≡ b = subst (λ (x : Test). holds_on r x ≡ b) (at-test tests n t at) e in
    subst (λ (x : Bool). MatchBool x (TestHolds r t) (¬ TestHolds r t)) own (test-decided r t)

-- a request that answers a path answers it with one of the two answers to a further test
pub answers-either : (tests : List Test) (path : Answers) (n : ℕ) (r : Request) → answer_of path n ≡ None → AnswersPath tests path r → AnswersPath tests (path_with path n true) r ⊎ AnswersPath tests (path_with path n false) r
answers-either tests path n r new before =
    elim (cases_Bool (holds_on r (test_at tests n))) [
      | inl e ↦ inl (answers-more tests path n true r new (decides-at tests n true r e) before)
      | inr e ↦ inr (answers-more tests path n false r new (decides-at tests n false r e) before)
    ]

-- a longer path is harder to answer
pub harder : (schema : Schema) (tests : List Test) → IsHarderAlong (IsPossible schema tests)
harder schema tests few many inside met = record { request = met.request; valid = met.valid; answers = answers-few tests few many met.request inside met.answers }

-- and one that can be answered can be answered with one of the two answers to a further test
pub goes_on : (schema : Schema) (tests : List Test) → CanGoOn (IsPossible schema tests)
goes_on schema tests path n met new =
    elim (answers-either tests path n met.request new met.answers) [
      | inl more ↦ inl (record { request = met.request; valid = met.valid; answers = more })
      | inr more ↦ inr (record { request = met.request; valid = met.valid; answers = more })
    ]
