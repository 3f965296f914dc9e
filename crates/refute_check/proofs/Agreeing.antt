-- A path has one propagated run, and it ends as the plain run does, after at most as many splits.
use Rattle.std.proofs.Common.{◌≡◌, ◌≤◌, ℕ, List, Bool, true, false, refl, sym, subst, arith}
use Rattle.formula_tree.specs.Answers.{Answers}
use Rattle.formula_tree.specs.Runs.{Run, path_with, no_by_path, no_by_value, no_side, yes_by_value, yes_side}
use Rattle.formula_tree.specs.Trees.{Tree}
use Rattle.formula_tree.specs.Values.{value}
use Rattle.formula_tree.specs.declared.value.Three.TheVariants.{Yes}
use Rattle.formula_tree.proofs.Laws.{pick-unknown}
use Rattle.policy_model.specs.declared.schema.Schema.{Schema}
use Rattle.policy_model.specs.declared.test.Test.{Test}
use Rattle.slot_theory.specs.Possible.{IsPossible, PathInRange}
use Rattle.refute_check.specs.Laws.{TreeInRange}
use Rattle.refute_check.specs.Propagated.{MeetsConflict, PropagatedRun}
use Rattle.refute_check.specs.Propagated as propagated
use Rattle.refute_check.proofs.Ending.{found-by-value, plain-ends, range-picked, unmet-by-clauses}

module _ (schema : Schema) (tests : List Test) (tree : Tree) (below : TreeInRange tests tree) where
  abbrev P : Answers → Type 0
  P = IsPossible schema tests

  abbrev R : Answers → Bool → ℕ → Type 0
  R = Run P tree

  abbrev S : Answers → Bool → ℕ → Type 0
  S = PropagatedRun schema tests tree

  -- a conflict leaves no request that makes the query yes
  refuted-yes : (p : Answers) → PathInRange tests p → value p tree ≡ Yes → P p → MeetsConflict tests tree p → ⊥
  refuted-yes p range is_yes can conflict =
      let found = found-by-value schema tests tree p range is_yes can in
      unmet-by-clauses schema tests tree below p range conflict found.request found.is

  refuted-run : (p : Answers) (b : Bool) (n : ℕ) → PathInRange tests p → MeetsConflict tests tree p → R p b n → false ≡ b
  refuted-run p b n range conflict run = sym (plain-ends schema tests tree below p b n range (unmet-by-clauses schema tests tree below p range conflict) run)

  pub same-propagated : (p : Answers) (b c : Bool) (n m : ℕ) → PathInRange tests p → S p b n → S p c m → (b ≡ c) × (n ≡ m)
  same-propagated p b c n m range (propagated.no_by_value p1 v1) (propagated.no_by_value p2 v2) = (refl, refl)
  same-propagated p b c n m range (propagated.no_by_value p1 v1) (propagated.no_by_path p2 x2) = (refl, refl)
  same-propagated p b c n m range (propagated.no_by_value p1 v1) (propagated.yes_by_value p2 v2 h2) = absurd (cc)
  same-propagated p b c n m range (propagated.no_by_value p1 v1) (propagated.no_by_clauses p2 q2) = (refl, refl)
  same-propagated p b c n m range (propagated.no_by_value p1 v1) (propagated.yes_side p2 t2 k2 a2 h2 q2 e2 y2 c2) = let u = pick-unknown p tree t2 e2 in absurd (cc)
  same-propagated p b c n m range (propagated.no_by_value p1 v1) (propagated.no_side p2 t2 end2 k2 m2 a2 h2 q2 e2 y2 z2 c2) = let u = pick-unknown p tree t2 e2 in absurd (cc)
  same-propagated p b c n m range (propagated.no_by_path p1 x1) (propagated.no_by_value p2 v2) = (refl, refl)
  same-propagated p b c n m range (propagated.no_by_path p1 x1) (propagated.no_by_path p2 x2) = (refl, refl)
  same-propagated p b c n m range (propagated.no_by_path p1 x1) (propagated.yes_by_value p2 v2 h2) = absurd (x1 h2)
  same-propagated p b c n m range (propagated.no_by_path p1 x1) (propagated.no_by_clauses p2 q2) = (refl, refl)
  same-propagated p b c n m range (propagated.no_by_path p1 x1) (propagated.yes_side p2 t2 k2 a2 h2 q2 e2 y2 c2) = absurd (x1 h2)
  same-propagated p b c n m range (propagated.no_by_path p1 x1) (propagated.no_side p2 t2 end2 k2 m2 a2 h2 q2 e2 y2 z2 c2) = absurd (x1 h2)
  same-propagated p b c n m range (propagated.yes_by_value p1 v1 h1) (propagated.no_by_value p2 v2) = absurd (cc)
  same-propagated p b c n m range (propagated.yes_by_value p1 v1 h1) (propagated.no_by_path p2 x2) = absurd (x2 h1)
  same-propagated p b c n m range (propagated.yes_by_value p1 v1 h1) (propagated.yes_by_value p2 v2 h2) = (refl, refl)
  same-propagated p b c n m range (propagated.yes_by_value p1 v1 h1) (propagated.no_by_clauses p2 q2) = absurd (refuted-yes p range v1 h1 q2)
  same-propagated p b c n m range (propagated.yes_by_value p1 v1 h1) (propagated.yes_side p2 t2 k2 a2 h2 q2 e2 y2 c2) = let u = pick-unknown p tree t2 e2 in absurd (cc)
  same-propagated p b c n m range (propagated.yes_by_value p1 v1 h1) (propagated.no_side p2 t2 end2 k2 m2 a2 h2 q2 e2 y2 z2 c2) = let u = pick-unknown p tree t2 e2 in absurd (cc)
  same-propagated p b c n m range (propagated.no_by_clauses p1 q1) (propagated.no_by_value p2 v2) = (refl, refl)
  same-propagated p b c n m range (propagated.no_by_clauses p1 q1) (propagated.no_by_path p2 x2) = (refl, refl)
  same-propagated p b c n m range (propagated.no_by_clauses p1 q1) (propagated.yes_by_value p2 v2 h2) = absurd (refuted-yes p range v2 h2 q1)
  same-propagated p b c n m range (propagated.no_by_clauses p1 q1) (propagated.no_by_clauses p2 q2) = (refl, refl)
  same-propagated p b c n m range (propagated.no_by_clauses p1 q1) (propagated.yes_side p2 t2 k2 a2 h2 q2 e2 y2 c2) = absurd (q2 q1)
  same-propagated p b c n m range (propagated.no_by_clauses p1 q1) (propagated.no_side p2 t2 end2 k2 m2 a2 h2 q2 e2 y2 z2 c2) = absurd (q2 q1)
  same-propagated p b c n m range (propagated.yes_side p1 t1 k1 a1 h1 q1 e1 y1 c1) (propagated.no_by_value p2 v2) = let u = pick-unknown p tree t1 e1 in absurd (cc)
  same-propagated p b c n m range (propagated.yes_side p1 t1 k1 a1 h1 q1 e1 y1 c1) (propagated.no_by_path p2 x2) = absurd (x2 h1)
  same-propagated p b c n m range (propagated.yes_side p1 t1 k1 a1 h1 q1 e1 y1 c1) (propagated.yes_by_value p2 v2 h2) = let u = pick-unknown p tree t1 e1 in absurd (cc)
  same-propagated p b c n m range (propagated.yes_side p1 t1 k1 a1 h1 q1 e1 y1 c1) (propagated.no_by_clauses p2 q2) = absurd (q1 q2)
  same-propagated p b c n m range (propagated.yes_side p1 t1 k1 a1 h1 q1 e1 y1 c1) (propagated.yes_side p2 t2 k2 a2 h2 q2 e2 y2 c2) =
      let same_test : t1 ≡ t2 = cc in
      let y : S (path_with p t2 true) true k1 = subst (λ (x : ℕ). S (path_with p x true) true k1) same_test y1 in
      let first = same-propagated (path_with p t2 true) true true k1 k2 (range-picked schema tests tree below p t2 true range e2) y y2 in
      let count = first.1 in
      (refl, omega arith)
  same-propagated p b c n m range (propagated.yes_side p1 t1 k1 a1 h1 q1 e1 y1 c1) (propagated.no_side p2 t2 end2 k2 m2 a2 h2 q2 e2 y2 z2 c2) =
      let same_test : t1 ≡ t2 = cc in
      let y : S (path_with p t2 true) true k1 = subst (λ (x : ℕ). S (path_with p x true) true k1) same_test y1 in
      let first = same-propagated (path_with p t2 true) true false k1 k2 (range-picked schema tests tree below p t2 true range e2) y y2 in
      let bad = first.0 in
      absurd (cc)
  same-propagated p b c n m range (propagated.no_side p1 t1 end1 k1 m1 a1 h1 q1 e1 y1 z1 c1) (propagated.no_by_value p2 v2) = let u = pick-unknown p tree t1 e1 in absurd (cc)
  same-propagated p b c n m range (propagated.no_side p1 t1 end1 k1 m1 a1 h1 q1 e1 y1 z1 c1) (propagated.no_by_path p2 x2) = absurd (x2 h1)
  same-propagated p b c n m range (propagated.no_side p1 t1 end1 k1 m1 a1 h1 q1 e1 y1 z1 c1) (propagated.yes_by_value p2 v2 h2) = let u = pick-unknown p tree t1 e1 in absurd (cc)
  same-propagated p b c n m range (propagated.no_side p1 t1 end1 k1 m1 a1 h1 q1 e1 y1 z1 c1) (propagated.no_by_clauses p2 q2) = absurd (q1 q2)
  same-propagated p b c n m range (propagated.no_side p1 t1 end1 k1 m1 a1 h1 q1 e1 y1 z1 c1) (propagated.yes_side p2 t2 k2 a2 h2 q2 e2 y2 c2) =
      let same_test : t1 ≡ t2 = cc in
      let y : S (path_with p t2 true) false k1 = subst (λ (x : ℕ). S (path_with p x true) false k1) same_test y1 in
      let first = same-propagated (path_with p t2 true) false true k1 k2 (range-picked schema tests tree below p t2 true range e2) y y2 in
      let bad = first.0 in
      absurd (cc)
  same-propagated p b c n m range (propagated.no_side p1 t1 end1 k1 m1 a1 h1 q1 e1 y1 z1 c1) (propagated.no_side p2 t2 end2 k2 m2 a2 h2 q2 e2 y2 z2 c2) =
      let same_test : t1 ≡ t2 = cc in
      let y : S (path_with p t2 true) false k1 = subst (λ (x : ℕ). S (path_with p x true) false k1) same_test y1 in
      let first = same-propagated (path_with p t2 true) false false k1 k2 (range-picked schema tests tree below p t2 true range e2) y y2 in
      let z : S (path_with p t2 false) b m1 = subst (λ (x : ℕ). S (path_with p x false) b m1) same_test z1 in
      let second = same-propagated (path_with p t2 false) b c m1 m2 (range-picked schema tests tree below p t2 false range e2) z z2 in
      let count = first.1 in
      let more = second.1 in
      (second.0, omega arith)

  pub shorter : (p : Answers) (b c : Bool) (n m : ℕ) → PathInRange tests p → S p b n → R p c m → (b ≡ c) × (n ≤ m)
  shorter p b c n m range (propagated.no_by_value p1 v1) (no_by_value p2 v2) = (refl, omega arith)
  shorter p b c n m range (propagated.no_by_value p1 v1) (no_by_path p2 x2) = (refl, omega arith)
  shorter p b c n m range (propagated.no_by_value p1 v1) (yes_by_value p2 v2 h2) = absurd (cc)
  shorter p b c n m range (propagated.no_by_value p1 v1) (yes_side p2 t2 k2 a2 h2 e2 y2 c2) = let u = pick-unknown p tree t2 e2 in absurd (cc)
  shorter p b c n m range (propagated.no_by_value p1 v1) (no_side p2 t2 end2 k2 m2 a2 h2 e2 y2 z2 c2) = let u = pick-unknown p tree t2 e2 in absurd (cc)
  shorter p b c n m range (propagated.no_by_path p1 x1) (no_by_value p2 v2) = (refl, omega arith)
  shorter p b c n m range (propagated.no_by_path p1 x1) (no_by_path p2 x2) = (refl, omega arith)
  shorter p b c n m range (propagated.no_by_path p1 x1) (yes_by_value p2 v2 h2) = absurd (x1 h2)
  shorter p b c n m range (propagated.no_by_path p1 x1) (yes_side p2 t2 k2 a2 h2 e2 y2 c2) = absurd (x1 h2)
  shorter p b c n m range (propagated.no_by_path p1 x1) (no_side p2 t2 end2 k2 m2 a2 h2 e2 y2 z2 c2) = absurd (x1 h2)
  shorter p b c n m range (propagated.yes_by_value p1 v1 h1) (no_by_value p2 v2) = absurd (cc)
  shorter p b c n m range (propagated.yes_by_value p1 v1 h1) (no_by_path p2 x2) = absurd (x2 h1)
  shorter p b c n m range (propagated.yes_by_value p1 v1 h1) (yes_by_value p2 v2 h2) = (refl, omega arith)
  shorter p b c n m range (propagated.yes_by_value p1 v1 h1) (yes_side p2 t2 k2 a2 h2 e2 y2 c2) = let u = pick-unknown p tree t2 e2 in absurd (cc)
  shorter p b c n m range (propagated.yes_by_value p1 v1 h1) (no_side p2 t2 end2 k2 m2 a2 h2 e2 y2 z2 c2) = let u = pick-unknown p tree t2 e2 in absurd (cc)
  shorter p b c n m range (propagated.no_by_clauses p1 q1) run = (refuted-run p c m range q1 run, omega arith)
  shorter p b c n m range (propagated.yes_side p1 t1 k1 a1 h1 q1 e1 y1 c1) (no_by_value p2 v2) = let u = pick-unknown p tree t1 e1 in absurd (cc)
  shorter p b c n m range (propagated.yes_side p1 t1 k1 a1 h1 q1 e1 y1 c1) (no_by_path p2 x2) = absurd (x2 h1)
  shorter p b c n m range (propagated.yes_side p1 t1 k1 a1 h1 q1 e1 y1 c1) (yes_by_value p2 v2 h2) = let u = pick-unknown p tree t1 e1 in absurd (cc)
  shorter p b c n m range (propagated.yes_side p1 t1 k1 a1 h1 q1 e1 y1 c1) (yes_side p2 t2 k2 a2 h2 e2 y2 c2) =
      let same_test : t1 ≡ t2 = cc in
      let y : S (path_with p t2 true) true k1 = subst (λ (x : ℕ). S (path_with p x true) true k1) same_test y1 in
      let first = shorter (path_with p t2 true) true true k1 k2 (range-picked schema tests tree below p t2 true range e2) y y2 in
      let count = first.1 in
      (refl, omega arith)
  shorter p b c n m range (propagated.yes_side p1 t1 k1 a1 h1 q1 e1 y1 c1) (no_side p2 t2 end2 k2 m2 a2 h2 e2 y2 z2 c2) =
      let same_test : t1 ≡ t2 = cc in
      let y : S (path_with p t2 true) true k1 = subst (λ (x : ℕ). S (path_with p x true) true k1) same_test y1 in
      let first = shorter (path_with p t2 true) true false k1 k2 (range-picked schema tests tree below p t2 true range e2) y y2 in
      let bad = first.0 in
      absurd (cc)
  shorter p b c n m range (propagated.no_side p1 t1 end1 k1 m1 a1 h1 q1 e1 y1 z1 c1) (no_by_value p2 v2) = let u = pick-unknown p tree t1 e1 in absurd (cc)
  shorter p b c n m range (propagated.no_side p1 t1 end1 k1 m1 a1 h1 q1 e1 y1 z1 c1) (no_by_path p2 x2) = absurd (x2 h1)
  shorter p b c n m range (propagated.no_side p1 t1 end1 k1 m1 a1 h1 q1 e1 y1 z1 c1) (yes_by_value p2 v2 h2) = let u = pick-unknown p tree t1 e1 in absurd (cc)
  shorter p b c n m range (propagated.no_side p1 t1 end1 k1 m1 a1 h1 q1 e1 y1 z1 c1) (yes_side p2 t2 k2 a2 h2 e2 y2 c2) =
      let same_test : t1 ≡ t2 = cc in
      let y : S (path_with p t2 true) false k1 = subst (λ (x : ℕ). S (path_with p x true) false k1) same_test y1 in
      let first = shorter (path_with p t2 true) false true k1 k2 (range-picked schema tests tree below p t2 true range e2) y y2 in
      let bad = first.0 in
      absurd (cc)
  shorter p b c n m range (propagated.no_side p1 t1 end1 k1 m1 a1 h1 q1 e1 y1 z1 c1) (no_side p2 t2 end2 k2 m2 a2 h2 e2 y2 z2 c2) =
      let same_test : t1 ≡ t2 = cc in
      let y : S (path_with p t2 true) false k1 = subst (λ (x : ℕ). S (path_with p x true) false k1) same_test y1 in
      let first = shorter (path_with p t2 true) false false k1 k2 (range-picked schema tests tree below p t2 true range e2) y y2 in
      let z : S (path_with p t2 false) b m1 = subst (λ (x : ℕ). S (path_with p x false) b m1) same_test z1 in
      let second = shorter (path_with p t2 false) b c m1 m2 (range-picked schema tests tree below p t2 false range e2) z z2 in
      let count = first.1 in
      let more = second.1 in
      (second.0, omega arith)
