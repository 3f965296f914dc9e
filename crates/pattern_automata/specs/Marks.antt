-- The marks of all patterns in one list, and the search tree over them.
use Rattle.std.specs.Prelude.{ℕ, ◌+◌, take, drop, List, [], ◌∷◌, ◌++◌, length, Bool}
use Rattle.wildcard_lang.specs.declared.piece.Piece.{Piece}
use Rattle.wildcard_lang.specs.Accepts.{marks_of, marks_reached, tests}
use Rattle.wildcard_lang.specs.Places.{contains_place}

-- the marks of the patterns after a text, one after another
abbrev pub all_marks : List (List Piece) → List ℕ → List Bool
all_marks [] t = []
all_marks (p ∷ ps) t = marks_of p t ++ all_marks ps t

-- how many marks the patterns have
abbrev pub mark_count : List (List Piece) → ℕ
mark_count [] = 0
mark_count (p ∷ ps) = (length p + 1) + mark_count ps

-- the marks to which the character c leads, pattern by pattern
abbrev pub all_reached : List (List Piece) → List Bool → ℕ → List Bool
all_reached [] marks c = []
all_reached (p ∷ ps) marks c = marks_reached p (take (length p + 1) marks) c ++ all_reached ps (drop (length p + 1) marks) c

-- the marks of a product state, pattern by pattern
abbrev pub marks_from : List (List Piece) → List (List ℕ) → List Bool
marks_from [] lists = []
marks_from (p ∷ ps) [] = []
marks_from (p ∷ ps) (l ∷ ls) = tests (contains_place l) 0 (length p + 1) ++ marks_from ps ls
