-- What a look at a clause finds under decided variables.
use Rattle.std.specs.Prelude.{◌≡◌, ℕ, List, Contains, ◌⊎◌, slice_get, MatchOption}
use Rattle.formula_tree.specs.Answers.{Answers}
use Rattle.cnf_clauses.specs.declared.clause.Found.{Found}
use Rattle.cnf_clauses.specs.declared.clause.Found.TheVariants.{Refuted, Unit, Open}
use Rattle.cnf_clauses.specs.Literals.{Clause, Literal, IsTrueUnder, IsUndecided, IsRefuted, IsUnit}

-- a literal is true
abbrev pub HasTrue : Answers → Clause → Type 0
HasTrue decided c = (m : Literal) × Contains c m × IsTrueUnder decided m

-- two literals that differ are undecided
abbrev pub HasTwoUndecided : Answers → Clause → Type 0
HasTwoUndecided decided c = (m : Literal) × (n : Literal) × Contains c m × Contains c n ×
    IsUndecided decided m × IsUndecided decided n × (m ≡ n → ⊥)

-- neither refuted nor unit
abbrev pub IsOpen : Answers → Clause → Type 0
IsOpen decided c = HasTrue decided c ⊎ HasTwoUndecided decided c

abbrev pub Finds : Answers → Clause → Found → Type 0
Finds decided c Refuted = IsRefuted decided c
Finds decided c (Unit variable value) = IsUnit decided c (variable, value)
Finds decided c Open = IsOpen decided c

-- a look at the clause of a number, which says nothing where there is none
abbrev pub FindsAt : List Clause → Answers → ℕ → Found → Type 0
FindsAt clauses decided n found = MatchOption (slice_get clauses n) (found ≡ Open) (λ c. Finds decided c found)
