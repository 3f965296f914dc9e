-- Unit propagation: what its steps keep, and when nothing is left to derive.
use Rattle.std.specs.Prelude.{◌≡◌, ℕ, List, ◌++◌, Bool, true, false, Some, slice_get, Contains, ◌⊎◌}
use Rattle.formula_tree.specs.Answers.{Answers}
use Rattle.cnf_clauses.specs.Literals.{Clause, Literal, IsFalseUnder}
use Rattle.cnf_clauses.specs.Found.{HasTrue, IsOpen}
use Rattle.cnf_clauses.specs.Replays.{Replays}

-- the hints lead from the path to the decided variables: what replays from these replays from the path, after the hints
abbrev pub HintsLead : List Clause → Answers → List ℕ → Answers → Type 0
HintsLead clauses path hints decided = (rest : List ℕ) → Replays clauses decided rest → Replays clauses path (hints ++ rest)

-- more hints lead to more decided variables
pub record GoesOn (clauses : List Clause) (hints : List ℕ) (decided : Answers) (new_hints : List ℕ) (now : Answers) : Type 0 where
  pub leads : (path : Answers) → HintsLead clauses path hints decided → HintsLead clauses path new_hints now
  pub added : Answers
  pub grows : now ≡ decided ++ added

-- a conflict is met where the Bool is true: then the hints replay
abbrev pub Steps : List Clause → List ℕ → Answers → List ℕ → Answers → Bool → Type 0
Steps clauses hints decided new_hints now true =
    (path : Answers) → HintsLead clauses path hints decided → Replays clauses path new_hints
Steps clauses hints decided new_hints now false = GoesOn clauses hints decided new_hints now

-- two literals that differ, neither of them false under the variables that were decided before
abbrev pub HasTwoLeft : Answers → Clause → Type 0
HasTwoLeft before c = (m : Literal) × (n : Literal) × Contains c m × Contains c n ×
    (m ≡ n → ⊥) × (IsFalseUnder before m → ⊥) × (IsFalseUnder before n → ⊥)

-- nothing can be derived from the clause by what was decided before
abbrev pub IsQuiet : Answers → Answers → Clause → Type 0
IsQuiet before decided c = HasTrue decided c ⊎ HasTwoLeft before c

abbrev pub AreQuiet : List Clause → Answers → Answers → Type 0
AreQuiet clauses before decided = (i : ℕ) (c : Clause) → slice_get clauses i ≡ Some c → IsQuiet before decided c

-- and so from no clause that holds the literal
abbrev pub AreQuietAt : Literal → List Clause → Answers → Answers → Type 0
AreQuietAt l clauses before decided =
    (i : ℕ) (c : Clause) → slice_get clauses i ≡ Some c → Contains c l → IsQuiet before decided c

-- what holds unless a conflict is met
abbrev pub Unless : Type 0 → Bool → Type 0
Unless holds met = met ≡ false → holds

-- the clause of the number is open
abbrev pub IsOpenClause : List Clause → Answers → ℕ → Type 0
IsOpenClause clauses decided n = (c : Clause) → slice_get clauses n ≡ Some c → IsOpen decided c
