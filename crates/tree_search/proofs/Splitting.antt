-- Runs that split at a path: what they come to on the two sides says what they come to there.
use Rattle.std.proofs.Common.{◌≡◌, ◌<◌, ◌≤◌, ◌+◌, ◌⊎◌, ℕ, List, Bool, true, false, Some, inl, inr, refl, subst, arith}
use Rattle.formula_tree.specs.Answers.{Answers}
use Rattle.formula_tree.specs.Runs.{Run, path_with, no_by_path, no_by_value, no_side, yes_by_value, yes_side}
use Rattle.formula_tree.specs.Trees.{Tree}
use Rattle.formula_tree.specs.Values.{pick}
use Rattle.formula_tree.proofs.Laws.{pick-unknown}
use Rattle.policy_model.specs.declared.schema.Schema.{Schema}
use Rattle.policy_model.specs.declared.test.Test.{Test}
use Rattle.slot_theory.specs.Possible.{IsPossible}
use Rattle.refute_check.specs.Propagated.{MeetsConflict, PropagatedRun}
use Rattle.refute_check.specs.Propagated as propagated
use Rattle.tree_search.specs.Nodes.{EndsUnmet}

-- paths, each with how a run from it may end, and its splits
abbrev pub Runs : Type 1
Runs = Answers → Bool → ℕ → Type 0

-- a run needs more splits
abbrev pub Needs : Runs → Answers → ℕ → Type 0
Needs runs path splits = (end : Bool) (n : ℕ) → runs path end n → splits < n

-- a split whose yes side ends with a request
abbrev pub EndsOnYes : Runs → Answers → Bool → ℕ → Type 0
EndsOnYes runs on_yes end n = (k : ℕ) × runs on_yes true k × (end ≡ true) × (n ≡ k + 1)

-- or without one, so that the no side says how it ends
abbrev pub EndsOnNo : Runs → Answers → Answers → Bool → ℕ → Type 0
EndsOnNo runs on_yes on_no end n = (k : ℕ) × (m : ℕ) × runs on_yes false k × runs on_no end m × (n ≡ k + m + 1)

abbrev pub SplitsInto : Runs → Answers → Answers → Bool → ℕ → Type 0
SplitsInto runs on_yes on_no end n = EndsOnYes runs on_yes end n ⊎ EndsOnNo runs on_yes on_no end n

-- each run from the path splits
abbrev pub AllSplit : Runs → Answers → Answers → Answers → Type 0
AllSplit runs path on_yes on_no = (end : Bool) (n : ℕ) → runs path end n → SplitsInto runs on_yes on_no end n

module _ (runs : Runs) (on_yes on_no : Answers) where
  one-of : (end : Bool) (n : ℕ) → SplitsInto runs on_yes on_no end n → 0 < n
  one-of end n (inl (k, y, is, sum)) = omega arith
  one-of end n (inr (k, m, y, z, sum)) = omega arith

  yes-of : (left rest : ℕ) → rest + 1 ≡ left → Needs runs on_yes rest → (end : Bool) (n : ℕ) → SplitsInto runs on_yes on_no end n → left < n
  yes-of left rest count more end n (inl (k, y, is, sum)) = let big : rest < k = more true k y in omega arith
  yes-of left rest count more end n (inr (k, m, y, z, sum)) = let big : rest < k = more false k y in omega arith

  no-of : (first left rest : ℕ) → EndsUnmet runs on_yes first → rest + first + 1 ≡ left → Needs runs on_no rest → (end : Bool) (n : ℕ) → SplitsInto runs on_yes on_no end n → left < n
  no-of first left rest ends count more end n (inl (k, y, is, sum)) = let bad = (ends true k y).0 in absurd (cc)
  no-of first left rest ends count more end n (inr (k, m, y, z, sum)) =
      let low : first ≤ k = (ends false k y).1 in
      let big : rest < m = more end m z in
      omega arith

  both-of : (first second used : ℕ) → EndsUnmet runs on_yes first → EndsUnmet runs on_no second → used ≡ first + second + 1 → (end : Bool) (n : ℕ) → SplitsInto runs on_yes on_no end n → (end ≡ false) × (used ≤ n)
  both-of first second used yes_ends no_ends sum end n (inl (k, y, is, count)) = let bad = (yes_ends true k y).0 in absurd (cc)
  both-of first second used yes_ends no_ends sum end n (inr (k, m, y, z, count)) =
      let low : first ≤ k = (yes_ends false k y).1 in
      let rest = no_ends end m z in
      let high : second ≤ m = rest.1 in
      (rest.0, omega arith)

  skip-of : (first used : ℕ) → EndsUnmet runs on_yes first → used ≡ first + 1 → (end : Bool) (n : ℕ) → end ≡ false → SplitsInto runs on_yes on_no end n → (end ≡ false) × (used ≤ n)
  skip-of first used ends sum end n unmet (inl (k, y, is, count)) = let bad = (ends true k y).0 in absurd (cc)
  skip-of first used ends sum end n unmet (inr (k, m, y, z, count)) = let low : first ≤ k = (ends false k y).1 in (unmet, omega arith)

  module _ (path : Answers) (split : AllSplit runs path on_yes on_no) where
    pub needs-one : Needs runs path 0
    needs-one end n run = one-of end n (split end n run)

    -- where the yes side needs more, so does the path
    pub needs-yes : (left rest : ℕ) → rest + 1 ≡ left → Needs runs on_yes rest → Needs runs path left
    needs-yes left rest count more end n run = yes-of left rest count more end n (split end n run)

    -- and where the yes side ends without a request and the no side needs more than is then left
    pub needs-no : (first left rest : ℕ) → EndsUnmet runs on_yes first → rest + first + 1 ≡ left → Needs runs on_no rest → Needs runs path left
    needs-no first left rest ends count more end n run = no-of first left rest ends count more end n (split end n run)

    -- where both sides end without one, so does the path, after the splits of both and one
    pub both-end : (first second used : ℕ) → EndsUnmet runs on_yes first → EndsUnmet runs on_no second → used ≡ first + second + 1 → EndsUnmet runs path used
    both-end first second used yes_ends no_ends sum end n run = both-of first second used yes_ends no_ends sum end n (split end n run)

    -- where the yes side ends without one, and so does the path, it has the splits of the yes side and one
    pub skip-end : (first used : ℕ) → EndsUnmet runs on_yes first → used ≡ first + 1 → ((end : Bool) (n : ℕ) → runs path end n → end ≡ false) → EndsUnmet runs path used
    skip-end first used ends sum unmet end n run = skip-of first used ends sum end n (unmet end n run) (split end n run)

-- ---- the two runs of a query split at a path that is open

module _ (schema : Schema) (tests : List Test) (tree : Tree) (p : Answers) (t : ℕ) (can : IsPossible schema tests p) (e : pick p tree ≡ Some t) where
  abbrev P : Answers → Type 0
  P = IsPossible schema tests

  abbrev R : Runs
  R = Run P tree

  abbrev S : Runs
  S = PropagatedRun schema tests tree

  pub plain-splits : AllSplit R p (path_with p t true) (path_with p t false)
  plain-splits end n (no_by_value p1 v1) = let u = pick-unknown p tree t e in absurd (cc)
  plain-splits end n (no_by_path p1 x1) = absurd (x1 can)
  plain-splits end n (yes_by_value p1 v1 h1) = let u = pick-unknown p tree t e in absurd (cc)
  plain-splits end n (yes_side p1 t1 k1 a1 h1 e1 y1 c1) =
      let same : t1 ≡ t = cc in
      inl (k1, subst (λ (x : ℕ). R (path_with p x true) true k1) same y1, refl, c1)
  plain-splits end n (no_side p1 t1 end1 k1 m1 a1 h1 e1 y1 z1 c1) =
      let same : t1 ≡ t = cc in
      inr (k1, m1, subst (λ (x : ℕ). R (path_with p x true) false k1) same y1, subst (λ (x : ℕ). R (path_with p x false) end m1) same z1, c1)

  pub propagated-splits : ¬ MeetsConflict tests tree p → AllSplit S p (path_with p t true) (path_with p t false)
  propagated-splits quiet end n (propagated.no_by_value p1 v1) = let u = pick-unknown p tree t e in absurd (cc)
  propagated-splits quiet end n (propagated.no_by_path p1 x1) = absurd (x1 can)
  propagated-splits quiet end n (propagated.yes_by_value p1 v1 h1) = let u = pick-unknown p tree t e in absurd (cc)
  propagated-splits quiet end n (propagated.no_by_clauses p1 q1) = absurd (quiet q1)
  propagated-splits quiet end n (propagated.yes_side p1 t1 k1 a1 h1 q1 e1 y1 c1) =
      let same : t1 ≡ t = cc in
      inl (k1, subst (λ (x : ℕ). S (path_with p x true) true k1) same y1, refl, c1)
  propagated-splits quiet end n (propagated.no_side p1 t1 end1 k1 m1 a1 h1 q1 e1 y1 z1 c1) =
      let same : t1 ≡ t = cc in
      inr (k1, m1, subst (λ (x : ℕ). S (path_with p x true) false k1) same y1, subst (λ (x : ℕ). S (path_with p x false) end m1) same z1, c1)
