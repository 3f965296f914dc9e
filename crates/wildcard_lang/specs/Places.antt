-- The places of a pattern after a text, the step by one more character, and how many product states patterns have.
use Rattle.std.specs.Prelude.{◌≡◌, ◌≢◌, ℕ, zero, suc, ◌+◌, ◌<◌, ◌≤◌, ◌↔◌, IsTrue, List, [], ◌∷◌, ◌++◌, length, take, slice_index_or, Bool, true, false, cond, ◌==◌, All, AllPairs, Contains}
use Rattle.std.specs.List.{list_any}
use Rattle.wildcard_lang.specs.declared.piece.Piece.{Piece}
use Rattle.wildcard_lang.specs.declared.piece.Piece.TheVariants.{One}
use Rattle.wildcard_lang.specs.Text.{IsText}
use Rattle.wildcard_lang.specs.Matching.{Matches, takes, is_many}
use Rattle.wildcard_lang.specs.Accepts.{accepts, reaches}

-- j is a place of the pattern after the text: its first j pieces match the text
abbrev pub IsPlace : List Piece → List ℕ → ℕ → Type 0
IsPlace ps t j = (j ≤ length ps) × Matches (take j ps) t

-- the character c leads from the list of places to a place: past a piece for one character that takes c; past a piece for any
-- number of characters that takes c, where that place is in the list; and, without a character, past a piece for any number of
-- characters from a place that was so reached
pub data Leads : List Piece → List ℕ → ℕ → ℕ → Type 0 where
  takes_one : {ps : List Piece} {places : List ℕ} {c j : ℕ} → j < length ps → is_many (slice_index_or ps j One) ≡ false →
      takes (slice_index_or ps j One) c ≡ true → Contains places j → Leads ps places c (suc j)
  stays : {ps : List Piece} {places : List ℕ} {c j : ℕ} → j < length ps → is_many (slice_index_or ps j One) ≡ true →
      takes (slice_index_or ps j One) c ≡ true → Contains places (suc j) → Leads ps places c (suc j)
  goes_on : {ps : List Piece} {places : List ℕ} {c j : ℕ} → j < length ps → is_many (slice_index_or ps j One) ≡ true →
      Leads ps places c j → Leads ps places c (suc j)

-- whether the number j is in the list. Lists of places are asked so, and by upper crates lists of other numbers, as of characters
abbrev pub contains_place : List ℕ → ℕ → Bool
contains_place is j = list_any (λ i. i == j) is

-- the numbers from i on, k of them, that pass the test, in rising order
abbrev pub passing_numbers : (ℕ → Bool) → ℕ → ℕ → List ℕ
passing_numbers test i zero = []
passing_numbers test i (suc k) = cond (test i) (i ∷ passing_numbers test (i + 1) k) (passing_numbers test (i + 1) k)

-- the places of the pattern after the text, in rising order
abbrev pub places_of : List Piece → List ℕ → List ℕ
places_of ps t = passing_numbers (λ i. accepts (take i ps) t) 0 (length ps + 1)

-- the places that c leads to, in rising order
abbrev pub step : List Piece → List ℕ → ℕ → List ℕ
step ps places c = passing_numbers (reaches ps (contains_place places) c) 0 (length ps + 1)

-- the product state of patterns after a text: the places of each
abbrev pub lists_of : List (List Piece) → List ℕ → List (List ℕ)
lists_of [] t = []
lists_of (p ∷ ps) t = places_of p t ∷ lists_of ps t

-- the product state that c leads to: of each pattern the places that it leads to
abbrev pub step_lists : List (List Piece) → List (List ℕ) → ℕ → List (List ℕ)
step_lists [] lists c = []
step_lists (p ∷ ps) [] c = []
step_lists (p ∷ ps) (l ∷ ls) c = step p l c ∷ step_lists ps ls c

-- n + 1 texts, no two with the same product state of the patterns
pub record ShowWider (patterns : List (List Piece)) (n : ℕ) (texts : List (List ℕ)) : Type 0 where
  pub count : length texts ≡ n + 1
  pub different : AllPairs (λ t u. lists_of patterns t ≢ lists_of patterns u) texts
  pub scalars : All IsText texts

-- the patterns are wider than n
abbrev pub IsWider : List (List Piece) → ℕ → Type 0
IsWider patterns n = (texts : List (List ℕ)) × ShowWider patterns n texts

-- the computed places are the places
abbrev pub PlacesAreMatched : Type 0
PlacesAreMatched = (ps : List Piece) (t : List ℕ) (j : ℕ) → IsTrue (contains_place (places_of ps t) j) ↔ IsPlace ps t j

-- the computed step is the step
abbrev pub StepsAreLed : Type 0
StepsAreLed = (ps : List Piece) (places : List ℕ) (c j : ℕ) → IsTrue (contains_place (step ps places c) j) ↔ Leads ps places c j

-- the step of the places of a text gives those of the text with one more character
abbrev pub StepsFollowTexts : Type 0
StepsFollowTexts = (patterns : List (List Piece)) (t : List ℕ) (c : ℕ) →
    step_lists patterns (lists_of patterns t) c ≡ lists_of patterns (t ++ c ∷ [])

-- texts that have different product states of some patterns have different product states of any patterns that have those
abbrev pub WidthsGrow : Type 0
WidthsGrow = (few more : List (List Piece)) (n : ℕ) (texts : List (List ℕ)) → All (Contains more) few → ShowWider few n texts →
    ShowWider more n texts
