-- Why variables are decided: by an answer of the path, or by what a clause says.
use Rattle.std.specs.Prelude.{◌≡◌, ℕ, List, [], ◌∷◌, ◌++◌, take, length, map, Bool, true, false, Option, Some, None, slice_get}
use Rattle.formula_tree.specs.Answers.{Answers}
use Rattle.cnf_clauses.specs.Literals.{Clause, Literal, IsRefuted, IsTrueUnder, IsUnit}

-- why a literal is true: it is an answer of the path, or the clause of a number says so after what was decided before it
abbrev pub IsReason : List Clause → Answers → Answers → Literal → Option ℕ → Type 0
IsReason clauses path before l None = IsTrueUnder path l
IsReason clauses path before l (Some n) = (c : Clause) × (slice_get clauses n ≡ Some c) × IsUnit before c l

-- each of the literals, which were decided one after another behind those before, has its reason
abbrev pub HaveReasons : List Clause → Answers → Answers → Answers → List (Option ℕ) → Type 0
HaveReasons clauses path before [] [] = Unit {0}
HaveReasons clauses path before [] (r ∷ reasons) = ⊥
HaveReasons clauses path before (l ∷ decided) [] = ⊥
HaveReasons clauses path before (l ∷ decided) (r ∷ reasons) =
    IsReason clauses path before l r × HaveReasons clauses path (before ++ l ∷ []) decided reasons

-- the list begins with the old one
abbrev pub Extends : {X : Type 0} → List X → List X → Type 0
Extends old new = take (length old) new ≡ old

-- behind the variables that were decided at the start each is what the clause of its hint says
pub record AreDerived (clauses : List Clause) (start : Answers) (hints : List ℕ) (decided : Answers) : Type 0 where
  pub added : Answers
  pub grows : decided ≡ start ++ added
  pub reasons : HaveReasons clauses [] start added (map Some hints)

-- and the last hint names a refuted clause
pub record AreRefuted (clauses : List Clause) (start : Answers) (hints : List ℕ) (decided : Answers) : Type 0 where
  pub front : List ℕ
  pub last : ℕ
  pub clause : Clause
  pub parts : hints ≡ front ++ last ∷ []
  pub derived : AreDerived clauses start front decided
  pub there : slice_get clauses last ≡ Some clause
  pub refuted : IsRefuted decided clause

-- what is derived has its reasons among the hints, up to the conflict where the Bool is true
abbrev pub Derives : List Clause → List ℕ → Answers → List ℕ → Answers → Bool → Type 0
Derives clauses hints decided new_hints now true =
    (start : Answers) → AreDerived clauses start hints decided → AreRefuted clauses start new_hints now
Derives clauses hints decided new_hints now false =
    (start : Answers) → AreDerived clauses start hints decided → AreDerived clauses start new_hints now
