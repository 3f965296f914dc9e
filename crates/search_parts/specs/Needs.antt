-- What a refuted part needs of its path.
use Rattle.std.specs.Prelude.{◌≡◌, ◌≤◌, ◌⊎◌, ℕ, List, [], ◌∷◌, ◌++◌, length, Bool, true, false, Some, Contains}
use Rattle.formula_tree.specs.Answers.{Answers, Contained, answer_of}
use Rattle.formula_tree.specs.Runs.{path_with}
use Rattle.formula_tree.specs.Trees.{Tree}
use Rattle.formula_tree.specs.Values.{value}
use Rattle.formula_tree.specs.declared.value.Three.TheVariants.{No}
use Rattle.refute_check.specs.Proofs.{Proof, by_value}
use Rattle.slot_theory.specs.Acceptance.{AnswerCoreAlike}
use Rattle.tree_values.specs.Omitting.{path_without}
use Rattle.search_parts.specs.declared.learning.TheConstants.{MOST_LEARNED}
use Rattle.search_parts.specs.declared.part.Needs.{Needs}
use Rattle.search_parts.specs.declared.part.Needs.TheVariants.{Just, Open, Unknown}

-- the part closes under exactly those answers of the path that have these
pub record NeedsJust (closes : Answers → Type 0) (path needs : Answers) : Type 0 where
  pub there : Contained needs path
  pub enough : (few : Answers) → Contained few path → Contained needs few → closes few
  pub needed : (few : Answers) → Contained few path → closes few → Contained needs few

-- Of the tree's value it is left open, since there may be several least lists; and it isn't known of a split that came after the last
-- one that was learned
abbrev pub AreNeeds : List Answers → (Answers → Type 0) → Proof → Answers → Needs → Type 0
AreNeeds store closes part path (Just needs) = NeedsJust closes path needs
AreNeeds store closes part path Open = part ≡ by_value
AreNeeds store closes part path Unknown = MOST_LEARNED ≤ length store

-- the path's answers to the tests of a core, and no others
pub record AreAnswersTo (core : List ℕ) (path needs : Answers) : Type 0 where
  pub there : Contained needs path
  pub only : (n : ℕ) (b : Bool) → answer_of needs n ≡ Some b → Contains core n
  pub all : AnswerCoreAlike core path needs

-- under these answers a part has what it needs, and if that is open, then the tree's value is no
abbrev pub HasNeeds : Tree → Needs → Answers → Type 0
HasNeeds tree (Just needs) answers = Contained needs answers
HasNeeds tree Open answers = value answers tree ≡ No
HasNeeds tree Unknown answers = ⊥

-- under these answers and the one to the test each side of a split has what it needs
pub record HaveNeeds (tree : Tree) (test : ℕ) (yes no : Needs) (answers : Answers) : Type 0 where
  pub yes_side : HasNeeds tree yes (path_with answers test true)
  pub no_side : HasNeeds tree no (path_with answers test false)

-- answers of the path under which each side of a split has what it needs, and that don't do without any of them
pub record AreLeast (tree : Tree) (path : Answers) (test : ℕ) (yes no : Needs) (answers : Answers) : Type 0 where
  pub there : Contained answers path
  pub enough : HaveNeeds tree test yes no answers
  pub least : (n : ℕ) (b : Bool) → answer_of answers n ≡ Some b → ¬ HaveNeeds tree test yes no (path_without answers n)

-- the answers that a part needs, where it is known; none where it is left open
abbrev pub needs_list : Needs → Answers
needs_list (Just needs) = needs
needs_list Open = []
needs_list Unknown = []

-- what two sides need besides the answer to the split's test, put together
pub record IsUnion (test : ℕ) (first second answers : Answers) : Type 0 where
  pub has_first : Contained (path_without first test) answers
  pub has_second : Contained (path_without second test) answers
  pub only : (n : ℕ) (b : Bool) → answer_of answers n ≡ Some b → (answer_of first n ≡ Some b) ⊎ (answer_of second n ≡ Some b)

-- where a part's needs are open, the tree's value is no
abbrev pub IsNoWhereOpen : Tree → Needs → Answers → Type 0
IsNoWhereOpen tree (Just needs) answers = Unit {0}
IsNoWhereOpen tree Open answers = value answers tree ≡ No
IsNoWhereOpen tree Unknown answers = ⊥

-- on both sides of a split
abbrev pub AreNoWhereOpen : Tree → ℕ → Needs → Needs → Answers → Type 0
AreNoWhereOpen tree test first second answers =
    IsNoWhereOpen tree first (path_with answers test true) × IsNoWhereOpen tree second (path_with answers test false)

-- answers of the path, with all that is known to be needed, under which the open sides are no; and without any of the others
-- they aren't
pub record AreCutFor (tree : Tree) (path : Answers) (test : ℕ) (first second : Needs) (answers : Answers) : Type 0 where
  pub needed : Answers
  pub union : IsUnion test (needs_list first) (needs_list second) needed
  pub needed_there : Contained needed answers
  pub there : Contained answers path
  pub still : AreNoWhereOpen tree test first second answers
  pub least : (n : ℕ) (b : Bool) → answer_of answers n ≡ Some b →
      (answer_of needed n ≡ Some b) ⊎ ¬ AreNoWhereOpen tree test first second (path_without answers n)

-- one more test of a core: the path's answer to it is there too
abbrev pub AddsAnswer : Answers → ℕ → Answers → Answers → Type 0
AddsAnswer path test old new = (core : List ℕ) → AreAnswersTo core path old → AreAnswersTo (core ++ test ∷ []) path new
