-- There is a propagated run from each path.
use Rattle.std.proofs.Common.{◌≡◌, ◌+◌, ◌⊎◌, ℕ, zero, suc, List, length, Bool, true, false, Some, inl, inr, refl, arith}
use Rattle.formula_tree.specs.Answers.{Answers}
use Rattle.formula_tree.specs.Runs.{path_with, unanswered_count}
use Rattle.formula_tree.specs.Trees.{Tree}
use Rattle.formula_tree.specs.Values.{pick, value}
use Rattle.formula_tree.specs.declared.value.Three.{Three}
use Rattle.formula_tree.specs.declared.value.Three.TheVariants.{No, Unknown, Yes}
use Rattle.formula_tree.proofs.Laws.{pick-unanswered, unanswered-more}
use Rattle.policy_model.specs.declared.schema.Schema.{Schema}
use Rattle.policy_model.specs.declared.test.Test.{Test}
use Rattle.slot_theory.specs.Possible.{IsPossible}
use Rattle.refute_check.specs.Laws.{TreeInRange}
use Rattle.refute_check.specs.Propagated.{MeetsConflict, PropagatedRun, no_by_clauses, no_by_path, no_by_value, no_side, yes_by_value, yes_side}
use Rattle.refute_check.proofs.Picking.{pick-within, some-pick}

cases_value : (v : Three) → (v ≡ Yes) ⊎ ((v ≡ No) ⊎ (v ≡ Unknown))
cases_value Yes = inl refl
cases_value No = inr (inl refl)
cases_value Unknown = inr (inr refl)

module _ (schema : Schema) (tests : List Test) (tree : Tree) where
  abbrev S : Answers → Bool → ℕ → Type 0
  S = PropagatedRun schema tests tree

  -- no run of the path
  abbrev Without : Answers → Type 0
  Without p = (b : Bool) (n : ℕ) → S p b n → ⊥

  module _ (p : Answers) (n : ℕ) (is : pick p tree ≡ Some n) (ok : IsPossible schema tests p) (free : ¬ MeetsConflict tests tree p) where
    -- where the yes side can't end without a path that is met, it has no run
    without-yes : ((k : ℕ) → S (path_with p n true) false k → ⊥) → Without p → Without (path_with p n true)
    without-yes unmet never true k y = never true (k + 1) (yes_side p n k (k + 1) ok free is y refl)
    without-yes unmet never false k y = unmet k y

    without-no : Without p → (k : ℕ) → S (path_with p n true) false k → Without (path_with p n false)
    without-no never k y c m z = never c (k + m + 1) (no_side p n c k m (k + m + 1) ok free is y z refl)

  -- the runs of both sides give one of the path
  from-sides : (p : Answers) (n : ℕ) → pick p tree ≡ Some n → (Without (path_with p n true) → ⊥) → (Without (path_with p n false) → ⊥) → Without p → ⊥
  from-sides p n is some_yes some_no never =
      never false 0 (no_by_path p (λ ok.
      let free : ¬ MeetsConflict tests tree p = λ conflict. never false 0 (no_by_clauses p conflict) in
      some_yes (without-yes p n is ok free (λ k y. some_no (without-no p n is ok free never k y)) never)))

  from-yes : (p : Answers) → value p tree ≡ Yes → Without p → ⊥
  from-yes p v never = never false 0 (no_by_path p (λ ok. never true 0 (yes_by_value p v ok)))

  module _ (below : TreeInRange tests tree) where
    pub some-propagated : (u : ℕ) (p : Answers) → unanswered_count p (length tests) ≡ u → Without p → ⊥
    some-propagated zero p e never =
        elim (cases_value (value p tree)) [
          | inl v ↦ from-yes p v never
          | inr (inl v) ↦ never false 0 (no_by_value p v)
          | inr (inr v) ↦
              let (n, is) = some-pick p tree v in
              let less = unanswered-more p n true (length tests) (pick-within (length tests) p tree n below is) (pick-unanswered p tree n is) in
              absurd (omega arith)
        ]
    some-propagated (suc u) p e never =
        elim (cases_value (value p tree)) [
          | inl v ↦ from-yes p v never
          | inr (inl v) ↦ never false 0 (no_by_value p v)
          | inr (inr v) ↦
              let (n, is) = some-pick p tree v in
              let less = unanswered-more p n true (length tests) (pick-within (length tests) p tree n below is) (pick-unanswered p tree n is) in
              let also = unanswered-more p n false (length tests) (pick-within (length tests) p tree n below is) (pick-unanswered p tree n is) in
              from-sides p n is (some-propagated u (path_with p n true) (omega arith)) (some-propagated u (path_with p n false) (omega arith)) never
        ]
