-- How a conflict is explained: going back over what was decided, which variables its hints need.
use Rattle.std.specs.Prelude.{◌≡◌, ℕ, List, [], ◌∷◌, ◌++◌, reverse, take, Bool, true, false, Option, Some, None, slice_get, slice_index_or, Contains, ◌⊎◌}
use Rattle.formula_tree.specs.Answers.{Answers, Contained, answer_of}
use Rattle.cnf_clauses.specs.Literals.{Clause, Literal, IsRefuted}
use Rattle.cnf_clauses.specs.Replays.{Replays}
use Rattle.cnf_clauses.specs.declared.explaining.Traced.{Traced}

-- the variable is marked
abbrev pub IsNeeded : List Bool → ℕ → Type 0
IsNeeded needed v = slice_index_or needed v false ≡ true

-- the variables of the clause are marked too
pub record NeedsAlso (c : Clause) (old new : List Bool) : Type 0 where
  pub kept : (v : ℕ) → IsNeeded old v → IsNeeded new v
  pub named : (m : Literal) → Contains c m → IsNeeded new m.0
  pub only : (v : ℕ) → IsNeeded new v → IsNeeded old v ⊎ ((m : Literal) × Contains c m × (m.0 ≡ v))

-- few answers have all that is known of the needed variables
abbrev pub HasNeeded : List Bool → Answers → Answers → Type 0
HasNeeded needed known few = (v : ℕ) (b : Bool) → IsNeeded needed v → answer_of known v ≡ Some b → answer_of few v ≡ Some b

-- from a part of what is known the hints replay exactly where it has what is needed
pub record Explains (clauses : List Clause) (known : Answers) (needed : List Bool) (hints : List ℕ) : Type 0 where
  pub replay : (few : Answers) → Contained few known → HasNeeded needed known few → Replays clauses few hints
  pub all : (few : Answers) → Contained few known → Replays clauses few hints → HasNeeded needed known few

-- the answers of a path to needed variables
pub record AreNeeded (path : Answers) (needed : List Bool) (used : Answers) : Type 0 where
  pub inside : Contained used path
  pub marked : (v : ℕ) (b : Bool) → answer_of used v ≡ Some b → IsNeeded needed v
  pub all : HasNeeded needed path used

-- the hints of what was traced come last first
abbrev pub ExplainsBack : List Clause → Answers → Traced → Type 0
ExplainsBack clauses known traced = Explains clauses known traced.needed.items (reverse traced.hints.items)

-- at the path and the first so many decided variables
abbrev pub ExplainsAt : List Clause → Answers → Answers → ℕ → Traced → Type 0
ExplainsAt clauses path decided upto traced = ExplainsBack clauses (path ++ take upto decided) traced

-- the literals of the clause of the number, where there is one
abbrev pub HasLiterals : List Clause → ℕ → Clause → Type 0
HasLiterals clauses n literals = (c : Clause) → slice_get clauses n ≡ Some c → literals ≡ c

-- one more hint was traced
pub record IsTraced (clauses : List Clause) (old : Traced) (n : ℕ) (new : Traced) : Type 0 where
  pub hints : new.hints.items ≡ old.hints.items ++ n ∷ []
  pub needs : (c : Clause) → slice_get clauses n ≡ Some c → NeedsAlso c old.needed.items new.needed.items

-- the same variables are marked
abbrev pub HasSameMarks : List Bool → List Bool → Type 0
HasSameMarks old new = (v : ℕ) → slice_index_or new v false ≡ slice_index_or old v false

-- the two give no variable different values
abbrev pub Agree : Answers → Answers → Type 0
Agree first second = (v : ℕ) (b c : Bool) → answer_of first v ≡ Some b → answer_of second v ≡ Some c → b ≡ c

-- where the variable is decided at all, it is so at the index
abbrev pub IsAnsweredAt : ℕ → ℕ → Answers → Type 0
IsAnsweredAt v index decided = (b : Bool) → answer_of decided v ≡ Some b → slice_get decided index ≡ Some (v, b)

-- the clause of the number is refuted
abbrev pub IsRefutedAt : List Clause → Answers → ℕ → Type 0
IsRefutedAt clauses decided n = (c : Clause) × (slice_get clauses n ≡ Some c) × IsRefuted decided c

-- a literal is not needed, or is an answer of the path; or its reason is a clause
abbrev pub IsNeededReason : Answers → List Bool → Literal → Option ℕ → Option ℕ → Type 0
IsNeededReason path needed l reason None = IsNeeded needed l.0 → (answer_of path l.0 ≡ None) → reason ≡ None
IsNeededReason path needed l reason (Some n) = (answer_of path l.0 ≡ None) × (reason ≡ Some n)
