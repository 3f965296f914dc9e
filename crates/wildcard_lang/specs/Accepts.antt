-- A test that computes whether pieces match a text.
use Rattle.std.specs.Prelude.{◌≡◌, ℕ, zero, suc, ◌+◌, ◌≤◌, List, [], ◌∷◌, length, slice_index_or, Bool, true, false, cond, ◌||◌, ◌&&◌, take}
use Rattle.wildcard_lang.specs.declared.piece.Piece.{Piece}
use Rattle.wildcard_lang.specs.declared.piece.Piece.TheVariants.{One}
use Rattle.wildcard_lang.specs.Matching.{takes, is_many}

abbrev pub accepts_many : {X : Type 0} → (List X → Bool) → (X → Bool) → List X → Bool
accepts_many rest takes [] = rest []
accepts_many rest takes (c ∷ t) = rest (c ∷ t) || (takes c && accepts_many rest takes t)

abbrev pub accepts_one : {X : Type 0} → (List X → Bool) → (X → Bool) → List X → Bool
accepts_one rest takes [] = false
accepts_one rest takes (c ∷ t) = takes c && rest t

abbrev pub is_empty : {X : Type 0} → List X → Bool
is_empty [] = true
is_empty (c ∷ t) = false

abbrev pub accepts_piece : {X : Type 0} → Bool → (X → Bool) → (List X → Bool) → List X → Bool
accepts_piece many takes rest t = cond many (accepts_many rest takes t) (accepts_one rest takes t)

abbrev pub accepts : List Piece → List ℕ → Bool
accepts [] t = is_empty t
accepts (p ∷ ps) t = accepts_piece (is_many p) (takes p) (accepts ps) t

-- whether the place behind the piece p is one after the character c, where `before` and `old` say whether the places before
-- and behind it were ones before c, and `below` whether the place before it is one after c
abbrev pub mark_after : Piece → ℕ → Bool → Bool → Bool → Bool
mark_after p c before old below = cond (is_many p) ((takes p c && old) || below) (takes p c && before)

-- whether the character c leads from the places that pass the test to the place j. From j - 1 it does where the piece between
-- takes c and is for one character; from j itself where that piece is for any number and takes c; and a j - 1 that is so
-- reached leads on where that piece is for any number
abbrev pub reaches : List Piece → (ℕ → Bool) → ℕ → ℕ → Bool
reaches ps old c zero = false
reaches ps old c (suc j) = mark_after (slice_index_or ps j One) c (old j) (old (suc j)) (reaches ps old c j)

-- a test at each number from i on, k of them
abbrev pub tests : (ℕ → Bool) → ℕ → ℕ → List Bool
tests test i zero = []
tests test i (suc k) = test i ∷ tests test (i + 1) k

-- for each number up to that of the pieces whether it is a place of the pattern after the text
abbrev pub marks_of : List Piece → List ℕ → List Bool
marks_of ps t = tests (λ i. accepts (take i ps) t) 0 (length ps + 1)

-- the marks to which the character c leads
abbrev pub marks_reached : List Piece → List Bool → ℕ → List Bool
marks_reached ps old c = tests (reaches ps (λ i. slice_index_or old i false) c) 0 (length ps + 1)

-- ---- the same of whatever a piece may take in place of a character, where a test says what it takes

abbrev pub accepts_by : {X : Type 0} → (Piece → X → Bool) → List Piece → List X → Bool
accepts_by taken [] t = is_empty t
accepts_by taken (p ∷ ps) t = accepts_piece (is_many p) (taken p) (accepts_by taken ps) t

abbrev pub mark_by : {X : Type 0} → (Piece → X → Bool) → Piece → X → Bool → Bool → Bool → Bool
mark_by taken p x before old below = cond (is_many p) ((taken p x && old) || below) (taken p x && before)

abbrev pub reaches_by : {X : Type 0} → (Piece → X → Bool) → List Piece → (ℕ → Bool) → X → ℕ → Bool
reaches_by taken ps old x zero = false
reaches_by taken ps old x (suc j) = mark_by taken (slice_index_or ps j One) x (old j) (old (suc j)) (reaches_by taken ps old x j)

-- each place up to the number of pieces is marked exactly where it is one after what was taken
abbrev pub ArePlaces : {X : Type 0} → (Piece → X → Bool) → List Piece → List X → List Bool → Type 0
ArePlaces taken ps t marks = (i : ℕ) → i ≤ length ps → slice_index_or marks i false ≡ accepts_by taken (take i ps) t

-- each place up to the number of pieces is marked anew exactly where x leads there from those marked before
abbrev pub AreReached : {X : Type 0} → (Piece → X → Bool) → List Piece → List Bool → X → List Bool → Type 0
AreReached taken ps old x new = (j : ℕ) → j ≤ length ps → slice_index_or new j false ≡ reaches_by taken ps (λ i. slice_index_or old i false) x j
