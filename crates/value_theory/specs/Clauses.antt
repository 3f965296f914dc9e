-- Clauses over numbered conditions.
use Rattle.std.specs.Prelude.{ℕ, ◌<◌, List, Bool, not, All, if◌then◌else◌}
use Rattle.std.specs.List.{list_any}
use Rattle.value_theory.specs.declared.clause.Literal.{Literal}

-- whether the literal holds, where the answer says whether its condition is met
abbrev pub literal_holds : Bool → Literal → Bool
literal_holds answer l = (if l.holds then answer else not answer)

-- whether some literal of the clause holds, where `answer i` says whether condition i is met
abbrev pub some_literal_holds : (ℕ → Bool) → List Literal → Bool
some_literal_holds answer clause = list_any (λ (l : Literal). literal_holds (answer l.pattern) l) clause

-- each literal is on one of the first n conditions
abbrev pub OnConditions : ℕ → List (List Literal) → Type 0
OnConditions n clauses = All (All (λ (l : Literal). l.pattern < n)) clauses
