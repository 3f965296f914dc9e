-- Literals and clauses of propositional logic, under variables that are decided one after another.
use Rattle.std.specs.Prelude.{◌≡◌, ℕ, List, Bool, not, Some, None, Contains, ◌⊎◌}
use Rattle.formula_tree.specs.Answers.{Answers, answer_of}

-- a variable, and the value at which the literal is true
abbrev pub Literal : Type 0
Literal = ℕ × Bool

-- a clause says that one of its literals is true
abbrev pub Clause : Type 0
Clause = List Literal

abbrev pub complement : Literal → Literal
complement l = (l.0, not l.1)

-- decided variables with their values are a list as the answers of a path are
abbrev pub IsTrueUnder : Answers → Literal → Type 0
IsTrueUnder decided l = answer_of decided l.0 ≡ Some l.1

abbrev pub IsFalseUnder : Answers → Literal → Type 0
IsFalseUnder decided l = answer_of decided l.0 ≡ Some (not l.1)

abbrev pub IsUndecided : Answers → Literal → Type 0
IsUndecided decided l = answer_of decided l.0 ≡ None

-- each literal of the clause is false
abbrev pub IsRefuted : Answers → Clause → Type 0
IsRefuted decided c = (m : Literal) → Contains c m → IsFalseUnder decided m

-- the literal is undecided, and each other literal of the clause is false; a literal that stands twice counts once
pub record IsUnit (decided : Answers) (c : Clause) (l : Literal) : Type 0 where
  pub stands : Contains c l
  pub undecided : IsUndecided decided l
  pub others : (m : Literal) → Contains c m → (m ≡ l) ⊎ IsFalseUnder decided m

-- under a truth of every variable, some literal of the clause is true
abbrev pub IsSatisfied : (ℕ → Bool) → Clause → Type 0
IsSatisfied truth c = (m : Literal) × Contains c m × (truth m.0 ≡ m.1)

abbrev pub AreSatisfied : (ℕ → Bool) → List Clause → Type 0
AreSatisfied truth cs = (c : Clause) → Contains cs c → IsSatisfied truth c
