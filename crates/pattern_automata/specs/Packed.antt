-- Marks packed into words of 64 bits, one bit each, the lowest bit first.
use Rattle.std.specs.Prelude.{ℕ, zero, suc, ◌+◌, ◌*◌, ◌/◌, ◌%◌, ◌==◌, take, drop, List}
use Rattle.std.specs.Prelude.{[], ◌∷◌, ◌++◌, length, map, slice_index_or, Bool, false, cond, ◌||◌, ◌&&◌}
use Rattle.std.specs.Int.{bit_at}
use Rattle.wildcard_lang.specs.declared.piece.Piece.{Piece}
use Rattle.pattern_automata.specs.Marks.{all_marks}

-- whether the bit of the word is set
abbrev pub is_bit_on : ℕ → ℕ → Bool
is_bit_on word i = bit_at word i == 1

-- the word with these bits
abbrev pub word_with : List Bool → ℕ
word_with [] = 0
word_with (b ∷ bs) = cond b 1 0 + 2 * word_with bs

-- n words with the marks, and none after the last
abbrev pub words_of_marks : ℕ → List Bool → List ℕ
words_of_marks zero marks = []
words_of_marks (suc n) marks = word_with (take 64 marks) ∷ words_of_marks n (drop 64 marks)

-- how many words hold so many marks
abbrev pub words_for : ℕ → ℕ
words_for n = n / 64 + 1

abbrev pub pack : List Bool → List ℕ
pack marks = words_of_marks (words_for (length marks)) marks

-- whether the mark j is set
abbrev pub word_mark : List ℕ → ℕ → Bool
word_mark words j = is_bit_on (slice_index_or words (j / 64) 0) (j % 64)

-- the mark before one, where `first` stands before the first
abbrev pub mark_before : Bool → (ℕ → Bool) → ℕ → Bool
mark_before first test zero = first
mark_before first test (suc i) = test i

-- marks that are set, or follow a set one and are led to
abbrev pub filled_marks : (ℕ → Bool) → (ℕ → Bool) → Bool → ℕ → Bool
filled_marks set leads first zero = set zero || (leads zero && first)
filled_marks set leads first (suc i) = set (suc i) || (leads (suc i) && filled_marks set leads first i)

-- marks after a step: `one` passes on the mark before, `stay` keeps the mark
abbrev pub moved_marks : (ℕ → Bool) → (ℕ → Bool) → (ℕ → Bool) → Bool → ℕ → Bool
moved_marks one stay old first i = (mark_before first old i && one i) || (old i && stay i)

-- marks after a step, from the marks before it: `one` passes a mark on, `stay` keeps it, and `leads` passes a new one on
abbrev pub stepped_marks : (ℕ → Bool) → (ℕ → Bool) → (ℕ → Bool) → (ℕ → Bool) → ℕ → Bool
stepped_marks one stay leads old i = filled_marks (moved_marks one stay old false) leads false i

-- for each mark of the patterns what a test says of the piece before it, where there is one
abbrev pub marks_by : (Piece → Bool) → List (List Piece) → List Bool
marks_by test [] = []
marks_by test (p ∷ ps) = false ∷ (map test p ++ marks_by test ps)

-- the words of the marks of the patterns after a text
abbrev pub all_words : List (List Piece) → List ℕ → List ℕ
all_words patterns t = pack (all_marks patterns t)
