-- Answers of a path that are given, and given back.
use Rattle.std.proofs.Common.{◌≡◌, ℕ, ◌<◌, ◌+◌, [], ◌∷◌, ◌++◌, length, take, get_or, Bool, Option, false, None, inl, inr, refl, sym, ap, subst, ◌∙◌, arith}
use Rattle.std.proofs.lemmas.List.{take_more}
use Rattle.formula_tree.specs.Answers.{Answers, answer_of}
use Rattle.formula_tree.proofs.Laws.{answer_of-besides, cases_eq}
use Rattle.tree_values.specs.Giving.{AreGiven, IsGivenSome}
use Rattle.tree_values.specs.Leaving.{IsLeftOut}
use Rattle.tree_values.specs.Models.{Answered, IsAnsweredBy, IsSet, answer_in}
use Rattle.tree_values.specs.declared.cut.Sides.{Sides}
use Rattle.tree_values.proofs.Leaving.{cases-answer, none-of, none-some, past, same-answered}

-- ---- giving one

pub given-none : (a : Answered) (path : Answers) → IsGivenSome a a path
given-none a path = record { formula = refl; tests = refl; each = λ n. inl refl }

pub given-set : (old new : Answered) (path : Answers) (test : ℕ) (answer : Option Bool) → answer ≡ answer_of path test → IsSet old new test answer → IsGivenSome old new path
given-set old new path test answer is set = record {
  formula = set.formula;
  tests = set.tests;
  each = λ n.
      elim (cases_eq n test) [
        | inl e ↦ inr (ap (answer_in new) e ∙ set.at ∙ is ∙ ap (answer_of path) (sym e))
        | inr ne ↦ inl (set.others n ne)
      ];
}

-- a test that has the path's answer keeps it
pub given-keeps : (old new : Answered) (path : Answers) → IsGivenSome old new path → (n : ℕ) → answer_in old n ≡ answer_of path n → answer_in new n ≡ answer_of path n
given-keeps old new path given n had =
    elim (given.each n) [
      | inl e ↦ e ∙ had
      | inr e ↦ e
    ]

pub given-then : (old mid new : Answered) (path : Answers) → IsGivenSome old mid path → IsGivenSome mid new path → IsGivenSome old new path
given-then old mid new path a b = record {
  formula = b.formula ∙ a.formula;
  tests = b.tests ∙ a.tests;
  each = λ n.
      elim (b.each n) [
        | inr e ↦ inr e
        | inl e ↦
            elim (a.each n) [
              | inl f ↦ inl (e ∙ f)
              | inr f ↦ inr (e ∙ f)
            ]
      ];
}

-- ---- giving some

pub each-none : (a : Answered) (path : Answers) → AreGiven a path []
each-none a path n b is room = absurd (none-some b is)

each-more : (mid new : Answered) (path ps : Answers) (p : ℕ × Bool) → IsGivenSome mid new path → (p.0 < length mid.answers → answer_in new p.0 ≡ answer_of path p.0) → AreGiven mid path ps → AreGiven new path (ps ++ p ∷ [])
each-more mid new path ps p given at before n b is room =
    let fits : n < length mid.answers = omega (arith, given.tests, room) in
    elim (cases_eq n p.0) [
      | inl e ↦ ap (answer_in new) e ∙ at (subst (λ (k : ℕ). k < length mid.answers) e fits) ∙ ap (answer_of path) (sym e)
      | inr ne ↦ given-keeps mid new path given n (before n b (sym (answer_of-besides ps p.0 p.1 n ne) ∙ is) fits)
    ]

pub each-next : (mid new : Answered) (path items : Answers) (k : ℕ) → k < length items → IsGivenSome mid new path → ((get_or items k (0, false)).0 < length mid.answers → answer_in new (get_or items k (0, false)).0 ≡ answer_of path (get_or items k (0, false)).0) →
    AreGiven mid path (take k items) → AreGiven new path (take (k + 1) items)
each-next mid new path items k lt given at before =
    subst (λ (ps : Answers). AreGiven new path ps) (sym (take_more items k (0, false) lt)) (each-more mid new path (take k items) (get_or items k (0, false)) given at before)

-- ---- giving all back

-- what was left out and given back leaves what was there
pub given-back : (old now new : Answered) (path needed : Answers) (test : ℕ) (sides : Sides) → IsAnsweredBy old path → IsLeftOut old now needed test sides → IsGivenSome now new path → AreGiven new path path → new ≡ old
given-back old now new path needed test sides answered out given each =
    same-answered old new (given.formula ∙ out.formula) (given.tests ∙ out.tests) same where
      open_stays : (n : ℕ) → answer_of path n ≡ None → answer_in now n ≡ None
      open_stays n free = none-of (answer_in now n) (λ b is. none-some b (sym free ∙ sym (answered n) ∙ out.fewer n b is))

      same : (n : ℕ) → answer_in new n ≡ answer_in old n
      same n =
          elim (cases-answer (answer_of path n)) [
            | inl free ↦
                elim (given.each n) [
                  | inl kept ↦ kept ∙ open_stays n free ∙ sym free ∙ sym (answered n)
                  | inr is ↦ is ∙ sym (answered n)
                ]
            | inr (b, is) ↦ each n b is (omega (arith, given.tests, out.tests, past old.answers n b (answered n ∙ is))) ∙ sym (answered n)
          ]
