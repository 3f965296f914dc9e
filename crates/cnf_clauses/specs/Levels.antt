-- Unit propagation that follows a path: what is decided at each length of the path, and why.
use Rattle.std.specs.Prelude.{◌≡◌, ◌<◌, ◌≤◌, ℕ, List, [], take, length, Option, slice_index_or}
use Rattle.formula_tree.specs.Answers.{Answers, Contained}
use Rattle.cnf_clauses.specs.Literals.{Clause}
use Rattle.cnf_clauses.specs.Propagates.{AreQuiet}
use Rattle.cnf_clauses.specs.Reasons.{HaveReasons}

-- clauses, and a path from which no hints replay
pub record Followed : Type 0 where
  pub clauses : List Clause
  pub path : Answers

-- what is decided from a path: all its answers and what the clauses say of them, until no clause says more
pub record IsLevel (clauses : List Clause) (path : Answers) (decided : Answers) (reasons : List (Option ℕ)) : Type 0 where
  pub answers : Contained path decided
  pub explained : HaveReasons clauses path [] decided reasons
  pub quiet : AreQuiet clauses decided decided

-- The same at each length of the path. A mark says how much was decided before the next answer.
pub record AreLevels (clauses : List Clause) (path decided : Answers) (reasons : List (Option ℕ)) (marks : List ℕ) : Type 0 where
  pub now : IsLevel clauses path decided reasons
  pub count : length marks ≡ length path
  pub within : (k : ℕ) → k < length path → slice_index_or marks k 0 ≤ length decided
  pub rise : (j k : ℕ) → j < k → k < length path → slice_index_or marks j 0 ≤ slice_index_or marks k 0
  pub before : (k : ℕ) → k < length path →
      IsLevel clauses (take k path) (take (slice_index_or marks k 0) decided) (take (slice_index_or marks k 0) reasons)
