-- A path's answers to the tests of a core, test by test.
use Rattle.std.proofs.Common.{◌≡◌, ℕ, [], ◌∷◌, ◌++◌, Bool, Option, Some, None, get_or, Contains, IsSome, OnOk, Result, Ok, Err, refl, sym, ◌∙◌, subst, inl, inr}
use Rattle.std.proofs.lemmas.List.Elements.{All-push, Contains-append_left, Contains-push}
use Rattle.formula_tree.specs.Answers.{Answers, answer_of}
use Rattle.formula_tree.proofs.Laws.{answer_of-besides, answer_of-last, cases_eq}
use Rattle.search_parts.specs.Needs.{AddsAnswer}

module _ (path : Answers) (test : ℕ) (old : Answers) where
  -- the path leaves the test open, or its answer is there
  adds-nothing : answer_of path test ≡ answer_of old test → AddsAnswer path test old old
  adds-nothing same core are = record {
    there = are.there;
    only = λ n b is. Contains-append_left core (test ∷ []) n (are.only n b is);
    all = All-push (λ n. answer_of path n ≡ answer_of old n) core test are.all same;
  }

  pub adds-known : (b : Bool) → answer_of old test ≡ Some b → AddsAnswer path test old old
  adds-known b known core are = adds-nothing (are.there test b known ∙ sym known) core are

  pub adds-some : IsSome (answer_of old test) → AddsAnswer path test old old
  adds-some some core are = known (answer_of old test) refl some core are
    where
      known : (o : Option Bool) → answer_of old test ≡ o → IsSome o → AddsAnswer path test old old
      known (Some b) e s = adds-known b e
      known None e s = absurd (cc)

  pub adds-none : answer_of path test ≡ None → answer_of old test ≡ None → AddsAnswer path test old old
  adds-none open_there open_here = adds-nothing (open_there ∙ sym open_here)

  pub adds-new : (b : Bool) → answer_of path test ≡ Some b → answer_of old test ≡ None → AddsAnswer path test old (old ++ (test, b) ∷ [])
  adds-new b given free core are =
      let last : answer_of (old ++ (test, b) ∷ []) test ≡ Some b = answer_of-last old test b free in
      record {
        there = λ n c is.
            elim (cases_eq n test) [
              | inl e ↦ let now : answer_of (old ++ (test, b) ∷ []) n ≡ Some b = rw e last in rw e (given ∙ sym now ∙ is)
              | inr ne ↦ are.there n c (sym (answer_of-besides old test b n ne) ∙ is)
            ];
        only = λ n c is.
            elim (cases_eq n test) [
              | inl e ↦ subst (Contains (core ++ test ∷ [])) (sym e) (Contains-push core test)
              | inr ne ↦ Contains-append_left core (test ∷ []) n (are.only n c (sym (answer_of-besides old test b n ne) ∙ is))
            ];
        all = All-push (λ n. answer_of path n ≡ answer_of (old ++ (test, b) ∷ []) n) core test (λ k d small. kept (get_or core k d) (are.all k d small)) (given ∙ sym last);
      }
    where
      kept : (n : ℕ) → answer_of path n ≡ answer_of old n → answer_of path n ≡ answer_of (old ++ (test, b) ∷ []) n
      kept n same =
          elim (cases_eq n test) [
            | inl e ↦ (let now : answer_of (old ++ (test, b) ∷ []) n ≡ Some b = rw e (answer_of-last old test b free) in let own : answer_of path n ≡ Some b = rw e given in own ∙ sym now)
            | inr ne ↦ same ∙ sym (answer_of-besides old test b n ne)
          ]

pub ok-to : {A E : Type 0} {P Q : Type 0} (result : Result A E) → (P → Q) → OnOk result P → OnOk result Q
ok-to (Ok a) f p = f p
ok-to (Err e) f p = tt
