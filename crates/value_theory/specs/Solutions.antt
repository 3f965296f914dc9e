-- What an answer to wants says.
use Rattle.std.specs.Prelude.{◌≡◌, ℕ, ◌<◌, pos, List, length, take, Bool, true, false, Option, Some, None, All, map, slice_index_or}
use Rattle.std.specs.List.{list_all}
use Rattle.value_theory.specs.declared.clause.Literal.{Literal}
use Rattle.value_theory.specs.declared.kinds.PlainCond.{PlainCond}
use Rattle.value_theory.specs.declared.kinds.PlainValue.{PlainValue}
use Rattle.value_theory.specs.declared.kinds.PlainValue.TheVariants as Value
use Rattle.value_theory.specs.declared.kinds.PlainKind.{PlainKind}
use Rattle.value_theory.specs.declared.kinds.PlainKind.TheVariants as Kind
use Rattle.value_theory.specs.declared.search.PlainWants.{PlainWants}
use Rattle.value_theory.specs.declared.search.Solved.{Solved}
use Rattle.value_theory.specs.declared.search.Solved.TheVariants.{Found, Empty}
use Rattle.value_theory.specs.Clauses.{some_literal_holds, OnConditions}
use Rattle.value_theory.specs.Meaning.{plain_kind, IsOfPlainKind, plain_meets}

-- each condition is on values of the kind, and each literal of the clauses names one of the conditions
pub record IsProper (wants : PlainWants) : Type 0 where
  pub kinds : All (λ c. plain_kind c ≡ wants.kind) wants.conds
  pub range : OnConditions (length wants.conds) wants.clauses

-- for each condition whether the value meets it
abbrev pub answers : List PlainCond → PlainValue → List Bool
answers conds v = map (plain_meets v) conds

-- whether the value meets a clause: some literal names a condition that the value meets or not, as wanted
abbrev pub meets_clause : List PlainCond → PlainValue → List Literal → Bool
meets_clause conds v clause = some_literal_holds (λ i. slice_index_or (answers conds v) i false) clause

-- whether the value meets each of the clauses
abbrev pub meets_clauses : List PlainCond → List (List Literal) → PlainValue → Bool
meets_clauses conds clauses v = list_all (meets_clause conds v) clauses

-- the value that was found is of the kind and meets the clauses; none is found where no value of the kind meets them
abbrev pub IsSolution : PlainKind → List PlainCond → List (List Literal) → Solved → Type 0
IsSolution kind conds clauses (Found v) = IsOfPlainKind kind v × (meets_clauses conds clauses v ≡ true)
IsSolution kind conds clauses Empty = (v : PlainValue) → IsOfPlainKind kind v → meets_clauses conds clauses v ≡ false

-- where 0 meets the clauses, it is the number that is found
abbrev pub PrefersZero : PlainKind → List PlainCond → List (List Literal) → Solved → Type 0
PrefersZero kind conds clauses solved =
    kind ≡ Kind.Number → meets_clauses conds clauses (Value.Number (pos 0)) ≡ true → solved ≡ Found (Value.Number (pos 0))

-- the point at the index meets the clauses and none before it does, or no point does
abbrev pub IsFirstMeeting : List PlainValue → List PlainCond → List (List Literal) → Option ℕ → Type 0
IsFirstMeeting points conds clauses (Some index) =
    (index < length points) × ((p : PlainValue) → p ≡ slice_index_or points index p → meets_clauses conds clauses p ≡ true)
    × All (λ p. meets_clauses conds clauses p ≡ false) (take index points)
IsFirstMeeting points conds clauses None = All (λ p. meets_clauses conds clauses p ≡ false) points
