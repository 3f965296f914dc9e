-- A part that closes by what is stored leaves no valid request that answers the path and makes the tree met, where each stored list
-- leaves none.
use Rattle.std.proofs.Common.{◌≡◌, ◌↔◌, ℕ, List, [], Bool, true, false, Some, None, MatchBool, IsTrue, All, refl, sym, ◌∙◌, subst, inl, inr}
use Rattle.std.proofs.lemmas.Bool.{cases_Bool}
use Rattle.formula_tree.specs.Answers.{Answers, Contained, answer_of}
use Rattle.formula_tree.specs.Runs.{path_with}
use Rattle.formula_tree.specs.Trees.{Tree}
use Rattle.formula_tree.proofs.Laws.{answer_of-besides, answer_of-last, cases_eq}
use Rattle.nogoods.specs.Hits.{answers_at}
use Rattle.policy_model.specs.declared.request.Request.{Request}
use Rattle.policy_model.specs.declared.schema.Schema.{Schema}
use Rattle.policy_model.specs.declared.test.Test.{Test}
use Rattle.policy_model.specs.Tests.{TestHolds}
use Rattle.policy_compile.specs.Meaning.{AnswersAs}
use Rattle.slot_theory.specs.Possible.{AnswersPath, PathInRange}
use Rattle.refute_check.specs.Laws.{NoneMeets, TreeInRange}
use Rattle.refute_check.specs.Proofs.{Proof, by_clauses, by_slot, by_value, label, reuse, split}
use Rattle.refute_check.proofs.Laws.{paths_are_no, range_more}
use Rattle.search_parts.specs.Parts.{ClosesByStore}

by-answer : (b : Bool) (A : Type 0) → IsTrue b ↔ A → MatchBool b A (¬ A)
by-answer true A says = says.0 refl
by-answer false A says = λ a. let bad : false ≡ true = says.1 a in absurd (cc)

some-same : (b c : Bool) → Some b ≡ Some c → b ≡ c
some-same b c e = cc

-- a request that answers a path answers it with its own answer to a further test
answers-more : (tests : List Test) (path : Answers) (n : ℕ) (r : Request) (total : ℕ → Bool) (b : Bool) → answer_of path n ≡ None → AnswersAs total r tests → AnswersPath tests path r → total n ≡ b → AnswersPath tests (path_with path n b) r
answers-more tests path n r total b new given before told m c t is at =
    elim (cases_eq m n) [
      | inl same ↦
          let last : answer_of (path_with path n b) m ≡ Some b = rw same (answer_of-last path n b new) in
          let own : total m ≡ c = rw same (told ∙ some-same b c (sym last ∙ is)) in
          subst (λ (x : Bool). MatchBool x (TestHolds r t) (¬ TestHolds r t)) own (by-answer (total m) (TestHolds r t) (given m t at))
      | inr other ↦ before m c t (sym (answer_of-besides path n b m other) ∙ is) at
    ]

module _ (schema : Schema) (tests : List Test) (tree : Tree) where
  abbrev Unmet : Answers → Type 0
  Unmet = NoneMeets schema tests tree

  -- what no request answers, none answers with more answers
  pub none-more : (few many : Answers) → Contained few many → Unmet few → Unmet many
  none-more few many inside none r met = none r (record { valid = met.valid; answers = λ n b t is at. met.answers n b t (inside n b is) at; meets = met.meets })

  pub none-split : (path : Answers) (n : ℕ) → answer_of path n ≡ None → Unmet (path_with path n true) → Unmet (path_with path n false) → Unmet path
  none-split path n new first second r met =
      let (total, given, made) = met.meets in
      elim (cases_Bool (total n)) [
        | inl e ↦ first r (record { valid = met.valid; answers = answers-more tests path n r total true new given met.answers e; meets = met.meets })
        | inr e ↦ second r (record { valid = met.valid; answers = answers-more tests path n r total false new given met.answers e; meets = met.meets })
      ]

  module _ (below : TreeInRange tests tree) (store : List Answers) (right : All Unmet store) where
    pub closed-none : (p : Proof) (q : Answers) → PathInRange tests q → ClosesByStore store schema tests tree p q → Unmet q
    closed-none (split n y z) q range (own, first, second) =
        none-split q n own.1 (closed-none y (path_with q n true) (range_more tests q n true range own.0) first) (closed-none z (path_with q n false) (range_more tests q n false range own.0) second)
    closed-none by_value q range h = paths_are_no schema tests tree by_value q below range h
    closed-none (by_slot core proof) q range h = paths_are_no schema tests tree (by_slot core proof) q below range h
    closed-none (by_clauses hints) q range h = paths_are_no schema tests tree (by_clauses hints) q below range h
    closed-none (label n answers p) q range (own, inner) =
        none-more answers q own.there (closed-none p answers (λ m b is. range m b (own.there m b is)) inner)
    closed-none (reuse n) q range h = none-more (answers_at store n) q h.there (right n [] h.within)
