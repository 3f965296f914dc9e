-- Which clauses hold a literal, and which have no two literals that differ.
use Rattle.std.specs.Prelude.{◌≡◌, ◌<◌, ℕ, List, [], Bool, true, false, Some, slice_get, slice_index_or, Contains, ◌⊎◌}
use Rattle.cnf_clauses.specs.declared.index.Index.{Index}
use Rattle.cnf_clauses.specs.Literals.{Clause, Literal}

-- the lists of the literals that are true at the value
abbrev pub lists_at : List (List ℕ) → List (List ℕ) → Bool → List (List ℕ)
lists_at at_yes at_no true = at_yes
lists_at at_yes at_no false = at_no

-- the clauses in which the literal stands
abbrev pub held_at : Index → Literal → List ℕ
held_at index l = slice_index_or (lists_at index.yes.items index.no.items l.1) l.0 []

abbrev pub HasTwoLiterals : Clause → Type 0
HasTwoLiterals c = (m : Literal) × (n : Literal) × Contains c m × Contains c n × (m ≡ n → ⊥)

-- one of the numbers is that of an equal clause
abbrev pub HasEqual : List Clause → List ℕ → Clause → Type 0
HasEqual clauses numbers c = (j : ℕ) × Contains numbers j × (slice_get clauses j ≡ Some c)

-- the clause of the number is equal to one before it
abbrev pub StandsAgain : List Clause → ℕ → Type 0
StandsAgain clauses i = (j : ℕ) × (j < i) × (slice_get clauses j ≡ slice_get clauses i)

-- the clauses from 0 up to a number stand in the index, at each of their literals they or equal ones
pub record StandInIndex (clauses : List Clause) (index : Index) (upto : ℕ) : Type 0 where
  pub held : (i : ℕ) (c : Clause) (l : Literal) → i < upto → slice_get clauses i ≡ Some c → Contains c l →
      HasEqual clauses (held_at index l) c
  pub short : (i : ℕ) (c : Clause) → i < upto → slice_get clauses i ≡ Some c → HasTwoLiterals c ⊎ Contains index.short i

-- no number is lost, at any variable
abbrev pub KeepsNumbers : List (List ℕ) → List (List ℕ) → Type 0
KeepsNumbers old new = (v i : ℕ) → Contains (slice_index_or old v []) i → Contains (slice_index_or new v []) i

-- and at any literal
abbrev pub KeepsHeld : Index → Index → Type 0
KeepsHeld old new = (l : Literal) (i : ℕ) → Contains (held_at old l) i → Contains (held_at new l) i

-- the number stands at each literal of the clause
abbrev pub HoldsAll : Index → Clause → ℕ → Type 0
HoldsAll index c n = (l : Literal) → Contains c l → Contains (held_at index l) n

-- the clause of the number stands in the index, beside all that stood there before
pub record IsIndexedWith (old : Index) (c : Clause) (n : ℕ) (new : Index) : Type 0 where
  pub held : HoldsAll new c n
  pub kept : KeepsHeld old new
  pub short : HasTwoLiterals c ⊎ Contains new.short n
  pub kept_short : (i : ℕ) → Contains old.short i → Contains new.short i

-- of each clause that holds the literal the number, or that of an equal one
abbrev pub NameHolding : List Clause → Literal → List ℕ → Type 0
NameHolding clauses l numbers = (i : ℕ) (c : Clause) → slice_get clauses i ≡ Some c → Contains c l → HasEqual clauses numbers c

-- the numbers of all clauses without two literals that differ
abbrev pub NameShort : List Clause → List ℕ → Type 0
NameShort clauses numbers = (i : ℕ) (c : Clause) → slice_get clauses i ≡ Some c → HasTwoLiterals c ⊎ Contains numbers i
