-- From a path each of the two runs ends exactly where some valid request answers the path and makes the query yes.
use Rattle.std.proofs.Common.{◌≡◌, ℕ, List, length, Bool, true, false, Some, None, refl, inl, inr}
use Rattle.formula_tree.specs.Answers.{Answers, answer_of}
use Rattle.formula_tree.specs.Runs.{Run, path_with, no_by_path, no_by_value, no_side, yes_by_value, yes_side}
use Rattle.formula_tree.specs.Trees.{Tree}
use Rattle.formula_tree.specs.Values.{pick, value}
use Rattle.formula_tree.specs.declared.value.Three.TheVariants.{No, Yes}
use Rattle.formula_tree.proofs.Laws.{pick-unanswered, says-no}
use Rattle.cnf_clauses.proofs.Cited.{exclude_yes}
use Rattle.policy_model.specs.declared.schema.Schema.{Schema}
use Rattle.policy_model.specs.declared.test.Test.{Test}
use Rattle.slot_theory.specs.Possible.{IsPossible, PathInRange}
use Rattle.refute_check.specs.Laws.{NoneMeets, TreeInRange}
use Rattle.refute_check.specs.Propagated.{MeetsConflict, PropagatedRun}
use Rattle.refute_check.specs.Propagated as propagated
use Rattle.refute_check.specs.RunLaws.{SomeRequestMeets}
use Rattle.refute_check.proofs.Closed.{completes_by}
use Rattle.refute_check.proofs.Extending.{answers-before, answers-either}
use Rattle.refute_check.proofs.Meeting.{makes-yes}
use Rattle.refute_check.proofs.Picking.{pick-within}
use Rattle.refute_check.proofs.Ranges.{all-in-range, range_more}

not-true : (b : Bool) → (b ≡ true → ⊥) → b ≡ false
not-true true never = absurd (never refl)
not-true false never = refl

module _ (schema : Schema) (tests : List Test) (tree : Tree) where
  abbrev P : Answers → Type 0
  P = IsPossible schema tests

  abbrev Found : Answers → Type 0
  Found = SomeRequestMeets schema tests tree

  abbrev Unmet : Answers → Type 0
  Unmet = NoneMeets schema tests tree

  -- ---- what a node says

  pub unmet-by-value : (path : Answers) → PathInRange tests path → value path tree ≡ No → Unmet path
  unmet-by-value path range is_no r met =
      let (total, given, holds) = met.meets in
      let refused = says-no path tree total (completes_by tests path r total range met.answers given) is_no in
      cc

  pub unmet-by-path : (path : Answers) → ¬ P path → Unmet path
  unmet-by-path path never r met = never (record { request = r; valid = met.valid; answers = met.answers })

  pub found-by-value : (path : Answers) → PathInRange tests path → value path tree ≡ Yes → P path → Found path
  found-by-value path range is_yes can = record {
    request = can.request;
    is = record { valid = can.valid; answers = can.answers; meets = makes-yes tests tree path can.request range can.answers is_yes };
  }

  pub found-before : (path : Answers) (n : ℕ) (b : Bool) → Found (path_with path n b) → Found path
  found-before path n b found = record {
    request = found.request;
    is = record { valid = found.is.valid; answers = answers-before tests path n b found.request found.is.answers; meets = found.is.meets };
  }

  -- a request answers a test one way
  pub unmet-by-split : (path : Answers) (n : ℕ) → answer_of path n ≡ None → Unmet (path_with path n true) → Unmet (path_with path n false) → Unmet path
  unmet-by-split path n new yes_side_unmet no_side_unmet r met =
      elim (answers-either tests path n r new met.answers) [
        | inl more ↦ yes_side_unmet r (record { valid = met.valid; answers = more; meets = met.meets })
        | inr more ↦ no_side_unmet r (record { valid = met.valid; answers = more; meets = met.meets })
      ]

  module _ (below : TreeInRange tests tree) where
    -- a picked test is in range, and so is the path with its answer
    pub range-picked : (path : Answers) (n : ℕ) (b : Bool) → PathInRange tests path → pick path tree ≡ Some n → PathInRange tests (path_with path n b)
    range-picked path n b range is = range_more tests path n b range (pick-within (length tests) path tree n below is)

    pub unmet-by-picked : (path : Answers) (n : ℕ) → pick path tree ≡ Some n → Unmet (path_with path n true) → Unmet (path_with path n false) → Unmet path
    unmet-by-picked path n is = unmet-by-split path n (pick-unanswered path tree n is)

    -- ---- the plain run

    abbrev R : Answers → Bool → ℕ → Type 0
    R = Run P tree

    pub plain-found : (p : Answers) (b : Bool) (n : ℕ) → PathInRange tests p → R p b n → b ≡ true → Found p
    plain-found p b n range (no_by_value p1 v1) e = absurd (cc)
    plain-found p b n range (no_by_path p1 x1) e = absurd (cc)
    plain-found p b n range (yes_by_value p1 v1 h1) e = found-by-value p range v1 h1
    plain-found p b n range (yes_side p1 t1 k1 a1 h1 e1 y1 c1) e = found-before p t1 true (plain-found (path_with p t1 true) true k1 (range-picked p t1 true range e1) y1 refl)
    plain-found p b n range (no_side p1 t1 end1 k1 m1 a1 h1 e1 y1 z1 c1) e = found-before p t1 false (plain-found (path_with p t1 false) b m1 (range-picked p t1 false range e1) z1 e)

    -- where no valid request answers the path and makes the query yes, it ends without one
    pub plain-ends : (p : Answers) (b : Bool) (n : ℕ) → PathInRange tests p → Unmet p → R p b n → b ≡ false
    plain-ends p b n range unmet run = not-true b (λ e. let found = plain-found p b n range run e in unmet found.request found.is)

    pub plain-unmet : (p : Answers) (b : Bool) (n : ℕ) → PathInRange tests p → R p b n → b ≡ false → Unmet p
    plain-unmet p b n range (no_by_value p1 v1) e = unmet-by-value p range v1
    plain-unmet p b n range (no_by_path p1 x1) e = unmet-by-path p x1
    plain-unmet p b n range (yes_by_value p1 v1 h1) e = absurd (cc)
    plain-unmet p b n range (yes_side p1 t1 k1 a1 h1 e1 y1 c1) e = absurd (cc)
    plain-unmet p b n range (no_side p1 t1 end1 k1 m1 a1 h1 e1 y1 z1 c1) e =
        unmet-by-picked p t1 e1 (plain-unmet (path_with p t1 true) false k1 (range-picked p t1 true range e1) y1 refl) (plain-unmet (path_with p t1 false) b m1 (range-picked p t1 false range e1) z1 e)

    -- ---- the propagated run

    abbrev S : Answers → Bool → ℕ → Type 0
    S = PropagatedRun schema tests tree

    pub propagated-found : (p : Answers) (b : Bool) (n : ℕ) → PathInRange tests p → S p b n → b ≡ true → Found p
    propagated-found p b n range (propagated.no_by_value p1 v1) e = absurd (cc)
    propagated-found p b n range (propagated.no_by_path p1 x1) e = absurd (cc)
    propagated-found p b n range (propagated.yes_by_value p1 v1 h1) e = found-by-value p range v1 h1
    propagated-found p b n range (propagated.no_by_clauses p1 q1) e = absurd (cc)
    propagated-found p b n range (propagated.yes_side p1 t1 k1 a1 h1 q1 e1 y1 c1) e = found-before p t1 true (propagated-found (path_with p t1 true) true k1 (range-picked p t1 true range e1) y1 refl)
    propagated-found p b n range (propagated.no_side p1 t1 end1 k1 m1 a1 h1 q1 e1 y1 z1 c1) e = found-before p t1 false (propagated-found (path_with p t1 false) b m1 (range-picked p t1 false range e1) z1 e)

    pub propagated-ends : (p : Answers) (b : Bool) (n : ℕ) → PathInRange tests p → Unmet p → S p b n → b ≡ false
    propagated-ends p b n range unmet run = not-true b (λ e. let found = propagated-found p b n range run e in unmet found.request found.is)

    pub unmet-by-clauses : (path : Answers) → PathInRange tests path → MeetsConflict tests tree path → Unmet path
    unmet-by-clauses path range conflict r met =
        let (total, given, holds) = met.meets in
        let refused = exclude_yes (length tests) tree path conflict.hints total below (all-in-range tests path range) conflict.replay (completes_by tests path r total range met.answers given) in
        cc

    pub propagated-unmet : (p : Answers) (b : Bool) (n : ℕ) → PathInRange tests p → S p b n → b ≡ false → Unmet p
    propagated-unmet p b n range (propagated.no_by_value p1 v1) e = unmet-by-value p range v1
    propagated-unmet p b n range (propagated.no_by_path p1 x1) e = unmet-by-path p x1
    propagated-unmet p b n range (propagated.yes_by_value p1 v1 h1) e = absurd (cc)
    propagated-unmet p b n range (propagated.no_by_clauses p1 q1) e = unmet-by-clauses p range q1
    propagated-unmet p b n range (propagated.yes_side p1 t1 k1 a1 h1 q1 e1 y1 c1) e = absurd (cc)
    propagated-unmet p b n range (propagated.no_side p1 t1 end1 k1 m1 a1 h1 q1 e1 y1 z1 c1) e =
        unmet-by-picked p t1 e1 (propagated-unmet (path_with p t1 true) false k1 (range-picked p t1 true range e1) y1 refl) (propagated-unmet (path_with p t1 false) b m1 (range-picked p t1 false range e1) z1 e)
