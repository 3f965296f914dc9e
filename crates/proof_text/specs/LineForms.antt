-- What a line of a file says, by what must stand there. A line is cut at each space; its first part is a word, the others are numbers,
-- in a line of places lists of numbers, and behind the number of a label answers to tests.
use Rattle.std.specs.Prelude.{ℕ, ◌-◌, ◌==◌, List, [], ◌∷◌, ◌++◌, map, drop, length, min, Bool, true, false, not, ◌&&◌, Option, Some, None}
use Rattle.std.specs.Prelude.{option_map, option_and_then, bytes_eq, codes, if◌then◌else◌}
use Rattle.std.specs.List.{concat, flat_map, onto_first, slice_split}
use Rattle.std.specs.Str.{all_ascii_digits}
use Rattle.std.specs.Str.Parse.{digits_value}
use Rattle.formula_tree.specs.Answers.{Answers}
use Rattle.proof_text.specs.Lines.{Line, certificate_line, split_line, value_line, slot_line, clauses_line, label_line, reuse_line}
use Rattle.proof_text.specs.Lines.{points_line, absent_line, required_line, closed_line, kinds_line, never_line, member_line}
use Rattle.proof_text.specs.Lines.{some_line, places_line}

-- what must stand at a line: the format's number; a node below so many splits and labels, with the numbers of these labels; the
-- proof for a slot or for a kind of principals; a closed set; or one of its product states
pub data Expected : Type 0 where
  ExpectVersion : Expected
  ExpectNode : ℕ → List ℕ → Expected
  ExpectSlotProof : Expected
  ExpectKindProof : Expected
  ExpectClosedSet : Expected
  ExpectState : Expected

-- ---- numbers

-- no digit stands after a zero in front
abbrev pub is_plain_front : List ℕ → Bool
is_plain_front [] = false
is_plain_front (c ∷ []) = true
is_plain_front (c ∷ d ∷ cs) = not (c == 48)

-- decimal digits, at least one, without zeros in front
abbrev pub is_number : List ℕ → Bool
is_number part = is_plain_front part && all_ascii_digits part

-- the number of a part, however large, or none where the part isn't one
abbrev pub number_said : List ℕ → Option ℕ
number_said part = (if is_number part then Some (digits_value 10 part) else None)

-- what each gives, or none where one gives nothing
abbrev pub all_given : {X : Type 0} → List (Option X) → Option (List X)
all_given [] = Some []
all_given (None ∷ os) = None
all_given (Some x ∷ os) = option_map (λ xs. x ∷ xs) (all_given os)

abbrev pub numbers_of : List (List ℕ) → Option (List ℕ)
numbers_of parts = all_given (map number_said parts)

-- numbers joined by commas, or `-` for none
abbrev pub places_in : List ℕ → Option (List ℕ)
places_in part = (if bytes_eq part (codes "-") then Some [] else numbers_of (slice_split (λ b. b == 44) part))

-- ---- answers: a plus or a minus before the number of a test

abbrev pub signed_answer : Bool → Option ℕ → Option (ℕ × Bool)
signed_answer holds number = option_map (λ n. (n, holds)) number

abbrev pub answer_said : List ℕ → Option (ℕ × Bool)
answer_said [] = None
answer_said (c ∷ digits) =
    (if c == 43 then signed_answer true (number_said digits)
    else (if c == 45 then signed_answer false (number_said digits) else None))

abbrev pub answers_of : List (List ℕ) → Option Answers
answers_of parts = all_given (map answer_said parts)

-- ---- parts behind a word: none, one number, at least one number, a number and any number of answers, any number of lists

abbrev pub said_alone : Line → List (List ℕ) → Option Line
said_alone l [] = Some l
said_alone l (part ∷ parts) = None

abbrev pub one_number : List (List ℕ) → Option ℕ
one_number [] = None
one_number (part ∷ []) = number_said part
one_number (part ∷ other ∷ parts) = None

abbrev pub some_numbers : List (List ℕ) → Option (List ℕ)
some_numbers [] = None
some_numbers (part ∷ parts) = numbers_of (part ∷ parts)

abbrev pub label_line_of : Option ℕ → Option Answers → Option Line
label_line_of None answers = None
label_line_of (Some n) answers = option_map (label_line n) answers

abbrev pub label_said : List (List ℕ) → Option Line
label_said [] = None
label_said (part ∷ parts) = label_line_of (number_said part) (answers_of parts)

abbrev pub lists_of_places : List (List ℕ) → Option (List (List ℕ))
lists_of_places parts = all_given (map places_in parts)

abbrev pub with_number : (ℕ → Line) → List (List ℕ) → Option Line
with_number l parts = option_map l (one_number parts)

-- ---- what may stand

abbrev pub closed_said : List ℕ → List (List ℕ) → Option Line
closed_said word parts = (if bytes_eq word (codes "closed") then with_number closed_line parts else None)

abbrev pub node_said : List ℕ → List (List ℕ) → Option Line
node_said word parts =
    (if bytes_eq word (codes "split") then with_number split_line parts
    else (if bytes_eq word (codes "value") then said_alone value_line parts
    else (if bytes_eq word (codes "slot") then option_map slot_line (some_numbers parts)
    else (if bytes_eq word (codes "clauses") then option_map clauses_line (some_numbers parts)
    else (if bytes_eq word (codes "label") then label_said parts
    else (if bytes_eq word (codes "reuse") then with_number reuse_line parts else None))))))

abbrev pub slot_proof_said : List ℕ → List (List ℕ) → Option Line
slot_proof_said word parts =
    (if bytes_eq word (codes "points") then said_alone points_line parts
    else (if bytes_eq word (codes "absent") then said_alone absent_line parts
    else (if bytes_eq word (codes "required") then said_alone required_line parts
    else (if bytes_eq word (codes "kinds") then said_alone kinds_line parts
    else (if bytes_eq word (codes "member") then with_number member_line parts
    else (if bytes_eq word (codes "some") then said_alone some_line parts else closed_said word parts))))))

abbrev pub kind_proof_said : List ℕ → List (List ℕ) → Option Line
kind_proof_said word parts =
    (if bytes_eq word (codes "never") then said_alone never_line parts else closed_said word parts)

-- what a word and the parts behind it say there
abbrev pub line_of_word : Expected → List ℕ → List (List ℕ) → Option Line
line_of_word ExpectVersion word parts =
    (if bytes_eq word (codes "certificate") then with_number certificate_line parts else None)
line_of_word (ExpectNode depth around) word parts = node_said word parts
line_of_word ExpectSlotProof word parts = slot_proof_said word parts
line_of_word ExpectKindProof word parts = kind_proof_said word parts
line_of_word ExpectClosedSet word parts = closed_said word parts
line_of_word ExpectState word parts = (if bytes_eq word (codes "places") then option_map places_line (lists_of_places parts) else None)

abbrev pub said_in : Expected → List (List ℕ) → Option Line
said_in e [] = None
said_in e (word ∷ parts) = line_of_word e word parts

-- what a line says without its end
abbrev pub content_said : Expected → List ℕ → Option Line
content_said e content = said_in e (slice_split (λ b. b == 32) content)

-- ---- the lines of a file

-- a file is cut behind each line feed; what stands behind the last is a line too, which has no end
abbrev pub lines_of : List ℕ → List (List ℕ)
lines_of [] = []
lines_of (b ∷ bs) = (if b == 10 then (b ∷ []) ∷ lines_of bs else onto_first b (lines_of bs))

-- how many lines stand before the line of this number, counted from 1: all, where there is no such line
abbrev pub lines_before : ℕ → List ℕ → ℕ
lines_before line bytes = min (line - 1) (length (lines_of bytes))

-- what stands behind so many lines
abbrev pub bytes_after : ℕ → List ℕ → List ℕ
bytes_after front bytes = concat (drop front (lines_of bytes))

-- lines of these contents, each ended by a line feed
abbrev pub ended_lines : List (List ℕ) → List ℕ
ended_lines contents = flat_map (λ content. content ++ 10 ∷ []) contents

-- the line without the line feed that ends it, or none where it has no end
abbrev pub content_of : List ℕ → Option (List ℕ)
content_of [] = None
content_of (b ∷ []) = (if b == 10 then Some [] else None)
content_of (b ∷ c ∷ bs) = option_map (λ content. b ∷ content) (content_of (c ∷ bs))

-- what a line of a file says, where such a line must stand, or none where it isn't of a form that may stand there
abbrev pub line_said : Expected → List ℕ → Option Line
line_said e line = option_and_then (content_said e) (content_of line)
