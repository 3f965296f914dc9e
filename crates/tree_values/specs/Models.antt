-- A tree with an answer or none for each of its tests, and what a change of one answer leaves.
use Rattle.std.specs.Prelude.{◌≡◌, ◌≢◌, ℕ, List, Bool, Option, None, length, slice_index_or}
use Rattle.formula_tree.specs.Answers.{Answers, answer_of}
use Rattle.formula_tree.specs.Trees.{Tree, tree_of}
use Rattle.formula_tree.specs.declared.formula.Formula.{Formula}

-- what is kept means this: a formula, and the answers by test number
pub record Answered : Type 0 where
  pub formula : Formula
  pub answers : List (Option Bool)

-- the tree that the formula stands for
abbrev pub answered_tree : Answered → Tree
answered_tree a = tree_of a.formula

-- the answer to a test; none past the end
abbrev pub answer_at : List (Option Bool) → ℕ → Option Bool
answer_at answers n = slice_index_or answers n None

abbrev pub answer_in : Answered → ℕ → Option Bool
answer_in a n = answer_at a.answers n

-- a path gives each test the answer that it has
abbrev pub IsAnsweredBy : Answered → Answers → Type 0
IsAnsweredBy a path = (n : ℕ) → answer_in a n ≡ answer_of path n

-- the answer to one test is changed, and no other
pub record IsSet (old new : Answered) (test : ℕ) (answer : Option Bool) : Type 0 where
  pub formula : new.formula ≡ old.formula
  pub tests : length new.answers ≡ length old.answers
  pub at : answer_in new test ≡ answer
  pub others : (n : ℕ) → n ≢ test → answer_in new n ≡ answer_in old n

-- nothing is answered, and there is room for so many tests
pub record IsStart (formula : Formula) (tests : ℕ) (a : Answered) : Type 0 where
  pub is : a.formula ≡ formula
  pub room : length a.answers ≡ tests
  pub none : (n : ℕ) → answer_in a n ≡ None

-- the same of the answers alone
pub record IsChanged (old new : List (Option Bool)) (test : ℕ) (answer : Option Bool) : Type 0 where
  pub tests : length new ≡ length old
  pub at : answer_at new test ≡ answer
  pub others : (n : ℕ) → n ≢ test → answer_at new n ≡ answer_at old n

-- so many tests without an answer
pub record IsUnanswered (tests : ℕ) (answers : List (Option Bool)) : Type 0 where
  pub room : length answers ≡ tests
  pub none : (n : ℕ) → answer_at answers n ≡ None
