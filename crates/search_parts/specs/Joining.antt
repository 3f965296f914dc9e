-- What a split of two sides is made of, and what is known of it.
use Rattle.std.specs.Prelude.{◌≡◌, ◌<◌, ◌≤◌, ◌+◌, ℕ, List, length, true, false, None, All}
use Rattle.formula_tree.specs.Answers.{Answers, answer_of}
use Rattle.formula_tree.specs.Runs.{path_with}
use Rattle.formula_tree.specs.Trees.{Tree}
use Rattle.nogoods.specs.Tracking.{Tracked}
use Rattle.policy_model.specs.declared.schema.Schema.{Schema}
use Rattle.policy_model.specs.declared.test.Test.{Test}
use Rattle.slot_theory.specs.Possible.{PathInRange}
use Rattle.tree_values.specs.Models.{Answered, IsAnsweredBy, answered_tree}
use Rattle.refute_check.specs.Laws.{NoneMeets, TreeInRange}
use Rattle.search_parts.specs.declared.learning.TheConstants.{MOST_LEARNED}
use Rattle.search_parts.specs.declared.part.Halves.{Halves}
use Rattle.search_parts.specs.declared.part.Part.{Part}
use Rattle.search_parts.specs.Making.{AreMadeHalves, AreOwnNeeds, IsMadePart}

-- the split is on a test that the path leaves open, the values and the lists follow the path, and what the sides need is of theirs
pub record AreReady (path : Answers) (halves : Halves) (learned : Tracked) (values : Answered) : Type 0 where
  pub within : halves.test < length values.answers
  pub free : answer_of path halves.test ≡ None
  pub answered_by : IsAnsweredBy values path
  pub follows : learned.path ≡ path
  pub few : length learned.lists ≤ MOST_LEARNED
  pub yes_needs : AreOwnNeeds (answered_tree values) learned.lists (path_with path halves.test true) halves.yes.needs
  pub no_needs : AreOwnNeeds (answered_tree values) learned.lists (path_with path halves.test false) halves.no.needs

-- no valid request answers one of the lists and makes the tree yes
abbrev pub AreUnmet : Schema → List Test → Tree → List Answers → Type 0
AreUnmet schema tests tree = All (NoneMeets schema tests tree)

-- the part is made where its sides are, and what is stored is unmet where it was
pub record IsJoinedFrom (schema : Schema) (tests : List Test) (tree : Tree) (old before after : List Answers)
    (path : Answers) (used : ℕ) (part : Part) : Type 0 where
  pub made : IsMadePart schema tests tree old after path used part
  pub unmet : AreUnmet schema tests tree before → TreeInRange tests tree → PathInRange tests path → AreUnmet schema tests tree after

abbrev pub IsJoined : Answers → Halves → List Answers → List Answers → Tree → Part → Type 0
IsJoined path halves before after tree part =
    (schema : Schema) (tests : List Test) (old middle : List Answers) (first second used : ℕ) →
    AreMadeHalves schema tests tree old middle before path first second halves → first + second + 1 ≤ used →
    IsJoinedFrom schema tests tree old before after path used part
