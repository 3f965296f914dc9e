-- Rows of answers: for each predicate that is kept, how it stands to those before it.
use Rattle.std.specs.Prelude.{◌≡◌, ◌↔◌, ◌<◌, ℕ, Bool, true, false, not, ◌&&◌, nat_eq, nat_lt, if◌then◌else◌, List, [], MatchBool, All, Contains, length, slice_index_or}
use Rattle.pattern_automata.specs.Closed.{rises_from}
use Rattle.policy_model.specs.declared.schema.Schema.{Schema}
use Rattle.policy_model.specs.declared.test.Slot.{Slot}
use Rattle.strata.specs.declared.predicate.Predicate.{Predicate}
use Rattle.strata.specs.declared.rows.Row.{Row}
use Rattle.strata.specs.Below.{IsApart, IsBelow}
use Rattle.strata.specs.Covers.{predicate_at}

-- the answer whether p is below q: true where it is, and false where some valid request meets p and not q
abbrev pub DecidesBelow : Schema → Slot → Predicate → Predicate → Bool → Type 0
DecidesBelow schema s p q b = MatchBool b (IsBelow schema s p q) (IsApart schema s p q)

-- for each of the first n predicates an answer of which P holds
pub record AreAnswered (P : Predicate → Bool → Type 0) (kept : List Predicate) (n : ℕ) (answers : List Bool) : Type 0 where
  pub count : length answers ≡ n
  pub each : (j : ℕ) → j < n → P (predicate_at kept j) (slice_index_or answers j false)

-- whether p is below each of the first n predicates, and whether each is below p
pub record IsRow (schema : Schema) (s : Slot) (kept : List Predicate) (n : ℕ) (p : Predicate) (row : Row) : Type 0 where
  pub below : AreAnswered (λ q b. DecidesBelow schema s p q b) kept n row.below
  pub above : AreAnswered (λ q b. DecidesBelow schema s q p b) kept n row.above

-- the rows tell the order of the kept predicates: each has its row with those before it
pub record RowsDecideOrder (schema : Schema) (s : Slot) (kept : List Predicate) (rows : List Row) : Type 0 where
  pub count : length rows ≡ length kept
  pub each : (i : ℕ) (d : Row) → i < length rows → IsRow schema s kept i (predicate_at kept i) (slice_index_or rows i d)

abbrev pub empty_row : Row
empty_row = record { below = []; above = [] }

-- the answer in the rows whether number j is below number i
abbrev pub below_by_rows : List Row → ℕ → ℕ → Bool
below_by_rows rows j i =
    (if nat_eq j i then true
    else if nat_lt j i then slice_index_or (slice_index_or rows i empty_row).above j false
    else slice_index_or (slice_index_or rows j empty_row).below i false)

-- both numbers are there, and by the rows number j is below number i
pub record IsBelowByRows (rows : List Row) (j i : ℕ) : Type 0 where
  pub lower : j < length rows
  pub upper : i < length rows
  pub below : below_by_rows rows j i ≡ true

-- and whether it is strictly below it
abbrev pub strictly_by_rows : List Row → ℕ → ℕ → Bool
strictly_by_rows rows j i = not (nat_eq j i) && below_by_rows rows j i

-- whether number k is strictly between them
abbrev pub between_by_rows : List Row → ℕ → ℕ → ℕ → Bool
between_by_rows rows j k i = strictly_by_rows rows j k && strictly_by_rows rows k i

-- none of the first n numbers is strictly between number j and number i
abbrev pub IsNothingAmong : List Row → ℕ → ℕ → ℕ → Type 0
IsNothingAmong rows n j i = (k : ℕ) → k < n → between_by_rows rows j k i ≡ false

abbrev pub IsNothingBetween : List Row → ℕ → ℕ → Type 0
IsNothingBetween rows j i = IsNothingAmong rows (length rows) j i

-- by the rows number j is maximal strictly below number i
pub record IsMaximalByRows (rows : List Row) (i j : ℕ) : Type 0 where
  pub lower : j < length rows
  pub upper : i < length rows
  pub strictly : strictly_by_rows rows j i ≡ true
  pub nothing : IsNothingBetween rows j i

-- the numbers below n, in rising order, of which P holds
pub record AreListed (P : ℕ → Type 0) (n : ℕ) (numbers : List ℕ) : Type 0 where
  pub rise : rises_from 0 numbers ≡ true
  pub within : All (λ j. j < n) numbers
  pub exact : (j : ℕ) → j < n → Contains numbers j ↔ P j

-- for each of the first n numbers those that are maximal strictly below it
pub record AreMaximalByRows (rows : List Row) (n : ℕ) (lists : List (List ℕ)) : Type 0 where
  pub count : length lists ≡ n
  pub each : (i : ℕ) (d : List ℕ) → i < n → AreListed (IsMaximalByRows rows i) (length rows) (slice_index_or lists i d)
