-- What following a path answers: conflicts, with the answers that they rest on.
use Rattle.std.specs.Prelude.{◌≡◌, ℕ, List, [], ◌∷◌, ◌++◌, Bool, Option, Some, None}
use Rattle.formula_tree.specs.Answers.{Answers}
use Rattle.cnf_clauses.specs.Levels.{Followed}
use Rattle.cnf_clauses.specs.Literals.{Clause}
use Rattle.cnf_clauses.specs.Replays.{Replays}
use Rattle.cnf_clauses.specs.Used.{RestOn}
use Rattle.cnf_clauses.specs.declared.following.Conflict.{Conflict}
use Rattle.cnf_clauses.specs.declared.following.Start.{Start}
use Rattle.cnf_clauses.specs.declared.following.Start.TheVariants.{Quiet, Met}

-- hints that replay from the path, and the answers that they rest on
pub record IsConflictAt (clauses : List Clause) (path : Answers) (c : Conflict) : Type 0 where
  pub replay : Replays clauses path c.hints
  pub rest : RestOn clauses path c.hints c.answers

-- what the clauses come to before any answer
abbrev pub IsStartOf : List Clause → Start → Type 0
IsStartOf clauses (Quiet f) = f ≡ record { clauses = clauses; path = [] }
IsStartOf clauses (Met c) = IsConflictAt clauses [] c

-- one more answer: followed, or a conflict there, and then the path is as before
abbrev pub IsFollowed : Followed → ℕ → Bool → Followed → Option Conflict → Type 0
IsFollowed old test answer new None = new ≡ record { clauses = old.clauses; path = old.path ++ (test, answer) ∷ [] }
IsFollowed old test answer new (Some c) = (new ≡ old) × IsConflictAt old.clauses (old.path ++ (test, answer) ∷ []) c

-- the last answer is taken away, where there is one
abbrev pub LosesLast : Answers → Answers → Type 0
LosesLast old new = (rest : Answers) (p : ℕ × Bool) → old ≡ rest ++ p ∷ [] → new ≡ rest
