-- Trimmed refutations: each split is learned under answers that are all needed, no split's yes side closes without the split's answer,
-- and no split stands where a label could be reused. This is a property of the finished refutation alone.
use Rattle.std.specs.Prelude.{◌≡◌, ◌≤◌, ◌⊎◌, ℕ, ◌+◌, List, [], All, Bool, true, false, Some}
use Rattle.formula_tree.specs.Answers.{Answers, Contained, answer_of}
use Rattle.tree_values.specs.Omitting.{path_without}
use Rattle.formula_tree.specs.Runs.{path_with}
use Rattle.formula_tree.specs.Trees.{Tree}
use Rattle.policy_model.specs.declared.schema.Schema.{Schema}
use Rattle.policy_model.specs.declared.test.Test.{Test}
use Rattle.refute_check.specs.Closing.{Before, Closes, after_part, at_first, inside_label}
use Rattle.refute_check.specs.Proofs.{Proof, by_clauses, by_slot, by_value, label, reuse, split}
use Rattle.search_parts.specs.declared.learning.TheConstants.{MOST_LEARNED}

-- how many of its splits aren't the node of a label, and how many are
abbrev mutual
  pub bare_splits : Proof → ℕ
  bare_splits (split n y z) = bare_splits y + bare_splits z + 1
  bare_splits by_value = 0
  bare_splits (by_slot core proof) = 0
  bare_splits (by_clauses hints) = 0
  bare_splits (label n answers p) = bare_in_label p
  bare_splits (reuse n) = 0

  pub bare_in_label : Proof → ℕ
  bare_in_label (split n y z) = bare_splits y + bare_splits z
  bare_in_label by_value = 0
  bare_in_label (by_slot core proof) = 0
  bare_in_label (by_clauses hints) = 0
  bare_in_label (label n answers p) = bare_in_label p
  bare_in_label (reuse n) = 0

abbrev pub one_if_split : Proof → ℕ
one_if_split (split n y z) = 1
one_if_split by_value = 0
one_if_split (by_slot core proof) = 0
one_if_split (by_clauses hints) = 0
one_if_split (label n answers p) = 0
one_if_split (reuse n) = 0

abbrev pub learned_splits : Proof → ℕ
learned_splits (split n y z) = learned_splits y + learned_splits z
learned_splits by_value = 0
learned_splits (by_slot core proof) = 0
learned_splits (by_clauses hints) = 0
learned_splits (label n answers p) = one_if_split p + learned_splits p
learned_splits (reuse n) = 0

-- each split is the node of a label, or as many are as may be
abbrev pub AreLearned : Proof → Type 0
AreLearned r = (bare_splits r ≡ 0) ⊎ (MOST_LEARNED ≤ learned_splits r)

-- no label that has ended has all its answers in the path
abbrev pub NoneCouldBeReused : Before → Answers → Type 0
NoneCouldBeReused before path = All (λ l. ¬ Contained l.1 path) before.ended

-- the part doesn't close where the list lacks one of its answers
abbrev pub NoneCanBeLeftOut : (Answers → Type 0) → Answers → Type 0
NoneCanBeLeftOut closes answers = (n : ℕ) (b : Bool) → answer_of answers n ≡ Some b → ¬ closes (path_without answers n)

-- each node's own conditions, under the path under which the rules of closing look at it
abbrev pub IsTrimmedAt : Schema → List Test → Tree → Before → Proof → Answers → Type 0
IsTrimmedAt schema tests tree before (split n y z) path =
    (¬ Closes schema tests tree before y path) × NoneCouldBeReused before path ×
    IsTrimmedAt schema tests tree before y (path_with path n true) ×
    IsTrimmedAt schema tests tree (after_part before y) z (path_with path n false)
IsTrimmedAt schema tests tree before (label n answers p) path =
    NoneCanBeLeftOut (Closes schema tests tree (inside_label before) p) answers × IsTrimmedAt schema tests tree (inside_label before) p answers
IsTrimmedAt schema tests tree before by_value path = Unit {0}
IsTrimmedAt schema tests tree before (by_slot core proof) path = Unit {0}
IsTrimmedAt schema tests tree before (by_clauses hints) path = Unit {0}
IsTrimmedAt schema tests tree before (reuse n) path = Unit {0}

pub record IsTrimmed (schema : Schema) (tests : List Test) (tree : Tree) (r : Proof) : Type 0 where
  pub learned : AreLearned r
  pub each : IsTrimmedAt schema tests tree at_first r []
