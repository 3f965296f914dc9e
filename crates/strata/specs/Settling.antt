-- What questions on predicates come to.
use Rattle.std.specs.Prelude.{◌≡◌, ◌≢◌, ◌↔◌, ⊤, ℕ, Bool, true, false, List, ◌∷◌, ◌++◌, [], IsTrue, Any, Contains, length, Option, Some, None, Result, Ok, Err}
use Rattle.wildcard_lang.specs.Places.{ShowWider}
use Rattle.policy_model.specs.declared.schema.Schema.{Schema}
use Rattle.policy_model.specs.declared.test.Slot.{Slot}
use Rattle.strata.specs.declared.inclusion.Within.{Within}
use Rattle.strata.specs.declared.inclusion.Within.TheVariants as within
use Rattle.strata.specs.declared.outcome.StrataFault.{StrataFault}
use Rattle.strata.specs.declared.outcome.StrataFault.TheVariants.{TooManyPredicates, Wide, NoMemory}
use Rattle.strata.specs.declared.predicate.Predicate.{Predicate}
use Rattle.strata.specs.declared.predicate.Predicate.TheVariants.{Every}
use Rattle.strata.specs.declared.rows.Row.{Row}
use Rattle.strata.specs.declared.kept.Kept.{Kept}
use Rattle.strata.specs.Asking.{pair_patterns}
use Rattle.strata.specs.Below.{IsMetUnder, MeetTheSame, AreKeptAmong}
use Rattle.strata.specs.Causes.{HaveWidePair}
use Rattle.strata.specs.Rows.{IsRow, RowsDecideOrder, DecidesBelow}

-- a fault in the slot: W holds of the texts
abbrev pub FailsWide : (List (List ℕ) → Type 0) → Slot → StrataFault → Type 0
FailsWide W s (Wide t texts) = (t ≡ s) × W texts
FailsWide W s (TooManyPredicates d) = ⊥
FailsWide W s NoMemory = ⊤

-- two predicates, which differ, are wider in the slot than the number of states
pub record IsWidePair (schema : Schema) (states : ℕ) (s : Slot) (p q : Predicate) (texts : List (List ℕ)) : Type 0 where
  pub differ : p ≢ q
  pub wider : ShowWider (pair_patterns schema s p q) states texts

-- yes or no, or a fault of the slot
abbrev pub SettlesTo : Slot → Within → Result Bool StrataFault → Type 0
SettlesTo s answer (Err NoMemory) = ⊤
SettlesTo s within.Yes r = r ≡ Ok true
SettlesTo s within.No r = r ≡ Ok false
SettlesTo s (within.TooMany texts) r = r ≡ Err (Wide s texts)

-- whether some valid request meets the predicate
abbrev pub DecidesMet : Schema → ℕ → Slot → Predicate → Result Bool StrataFault → Type 0
DecidesMet schema states s p (Ok b) = IsTrue b ↔ IsMetUnder schema s p
DecidesMet schema states s p (Err e) = FailsWide (IsWidePair schema states s p Every) s e

-- whether p is below q
abbrev pub DecidesWithin : Schema → ℕ → Slot → Predicate → Predicate → Result Bool StrataFault → Type 0
DecidesWithin schema states s p q (Ok b) = DecidesBelow schema s p q b
DecidesWithin schema states s p q (Err e) = FailsWide (IsWidePair schema states s p q) s e

-- two of `any` and these predicates are too wide in the slot
abbrev pub FailsAmong : Schema → ℕ → Slot → List Predicate → StrataFault → Type 0
FailsAmong schema states s names e = FailsWide (HaveWidePair schema states s (Every ∷ names)) s e

-- the row of a predicate after those that are kept, or none where one of them is met by the same requests
abbrev pub IsRowOf : Schema → ℕ → Slot → List Predicate → Predicate → Result (Option Row) StrataFault → Type 0
IsRowOf schema states s kept p (Ok None) = Any (λ q. MeetTheSame schema s q p) kept
IsRowOf schema states s kept p (Ok (Some row)) = IsRow schema s kept (length kept) p row × ¬ Any (λ q. MeetTheSame schema s q p) kept
IsRowOf schema states s kept p (Err e) = FailsAmong schema states s (kept ++ p ∷ []) e

-- what is kept of the predicates that are named, and how they stand to one another
pub record AreKeptSoFar (schema : Schema) (s : Slot) (names : List Predicate) (kept : Kept) : Type 0 where
  pub keeps : AreKeptAmong schema s names kept.predicates
  pub covers : (q : Predicate) → Contains names q → IsMetUnder schema s q → Any (λ k. MeetTheSame schema s k q) kept.predicates
  pub rows_decide : RowsDecideOrder schema s kept.predicates kept.rows

-- the same, or two of those that are named are too wide
abbrev pub KeepsOf : Schema → ℕ → Slot → List Predicate → Result Kept StrataFault → Type 0
KeepsOf schema states s names (Ok kept) = AreKeptSoFar schema s names kept
KeepsOf schema states s names (Err e) = FailsAmong schema states s names e

-- one more predicate was looked at
abbrev pub KeepsOneMore : Schema → ℕ → Slot → List Predicate → Kept → Result Unit StrataFault → Type 0
KeepsOneMore schema states s names kept (Ok u) = AreKeptSoFar schema s names kept
KeepsOneMore schema states s names kept (Err e) = FailsAmong schema states s names e
