-- How the answers that a split needs are chosen from its path.
use Rattle.std.specs.Prelude.{◌≡◌, ◌<◌, ◌≤◌, ◌||◌, ℕ, [], All, Option, Bool, None, if◌then◌else◌}
use Rattle.std.specs.Option.{is_some}
use Rattle.formula_tree.specs.Answers.{Answers, Contained, answer_of}
use Rattle.formula_tree.specs.Trees.{Tree}
use Rattle.formula_tree.specs.Values.{value}
use Rattle.formula_tree.specs.declared.value.Three.TheVariants.{No}
use Rattle.tree_values.specs.Cuts.{IsLeastCut}
use Rattle.tree_values.specs.declared.cut.Sides.{Sides}
use Rattle.refute_check.specs.Closing.{Rise}
use Rattle.search_parts.specs.declared.part.Needs.{Needs}
use Rattle.search_parts.specs.declared.part.Needs.TheVariants.{Just, Open, Unknown}

-- what a part needs is known and of its path, or it is open and the tree's value is no
abbrev pub AreKnownNeeds : Tree → Answers → Needs → Type 0
AreKnownNeeds tree path (Just needs) = Contained needs path
AreKnownNeeds tree path Open = value path tree ≡ No
AreKnownNeeds tree path Unknown = ⊥

-- the path's answer to a test that one of two lists answers
abbrev pub chosen_at : Answers → Answers → Answers → ℕ → Option Bool
chosen_at path first second n = if is_some (answer_of first n) || is_some (answer_of second n) then answer_of path n else None

-- the answers of the path to those tests, and no others
abbrev pub AreChosen : Answers → Answers → Answers → Answers → Type 0
AreChosen path first second answers = (n : ℕ) → answer_of answers n ≡ chosen_at path first second n

-- those to tests below a number, in the order of tests
pub record AreChosenBelow (path first second : Answers) (end : ℕ) (answers : Answers) : Type 0 where
  pub here : (n : ℕ) → n < end → answer_of answers n ≡ chosen_at path first second n
  pub behind : (n : ℕ) → end ≤ n → answer_of answers n ≡ None
  pub below : All (λ a. a.0 < end) answers
  pub rise : Rise answers

-- the answers of a least cut
pub record IsCutDown (tree : Tree) (path needed : Answers) (test : ℕ) (sides : Sides) (answers : Answers) : Type 0 where
  pub cut : Answers
  pub is : IsLeastCut tree path needed test sides cut
  pub same : AreChosen path cut [] answers
