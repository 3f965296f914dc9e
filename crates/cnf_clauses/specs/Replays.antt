-- Replaying a list of hints: unit propagation by named clauses, until one is refuted.
use Rattle.std.specs.Prelude.{◌≡◌, ℕ, List, [], ◌∷◌, ◌++◌, Some, slice_get}
use Rattle.formula_tree.specs.Answers.{Answers}
use Rattle.cnf_clauses.specs.Literals.{Clause, Literal, IsRefuted, IsUnit}

-- The hints, each the number of a clause, lead from the decided variables to a refuted clause.
pub data Replays (clauses : List Clause) : Answers → List ℕ → Type 0 where
  -- the last hint names a refuted clause
  refuted : (decided : Answers) (hint : ℕ) (c : Clause) → slice_get clauses hint ≡ Some c → IsRefuted decided c →
      Replays clauses decided (hint ∷ [])
  -- each other hint names a clause with one literal left, and that literal becomes true
  derives : (decided : Answers) (hint : ℕ) (hints : List ℕ) (c : Clause) (l : Literal) → slice_get clauses hint ≡ Some c →
      IsUnit decided c l → Replays clauses (decided ++ l ∷ []) hints → Replays clauses decided (hint ∷ hints)

-- no hints replay
abbrev pub NoneReplay : List Clause → Answers → Type 0
NoneReplay clauses decided = (hints : List ℕ) → ¬ Replays clauses decided hints
