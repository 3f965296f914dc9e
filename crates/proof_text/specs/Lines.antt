-- The lines of a certificate by what they say, and their texts. Certificates are this project's own format: lines of a word and
-- numbers, each ended by one line feed.
use Rattle.std.specs.Prelude.{ℕ, List, [], ◌∷◌, ◌++◌, map, Bool, codes, decimal, if◌then◌else◌}
use Rattle.std.specs.List.{join_with_byte}
use Rattle.formula_tree.specs.Answers.{Answers}

-- a line: the number of its format, a split on a test, the value, the tests of a core, hints of clauses, a label with its answers, the
-- reuse of a label, what begins a proof for one slot, or the places of one product state
pub data Line : Type 0 where
  certificate_line : ℕ → Line
  split_line : ℕ → Line
  value_line : Line
  slot_line : List ℕ → Line
  clauses_line : List ℕ → Line
  label_line : ℕ → Answers → Line
  reuse_line : ℕ → Line
  points_line : Line
  absent_line : Line
  required_line : Line
  closed_line : ℕ → Line
  kinds_line : Line
  never_line : Line
  member_line : ℕ → Line
  some_line : Line
  places_line : List (List ℕ) → Line

-- the places of one pattern: numbers joined by commas, or `-` where there are none
abbrev pub places_part : List ℕ → List ℕ
places_part [] = codes "-"
places_part (n ∷ ns) = join_with_byte 44 (map decimal (n ∷ ns))

-- the answer to a test: a plus or a minus before its number
abbrev pub answer_part : ℕ × Bool → List ℕ
answer_part p = (if p.1 then 43 else 45) ∷ decimal p.0

-- the parts of a line, a word first
abbrev pub line_parts : Line → List (List ℕ)
line_parts (certificate_line n) = codes "certificate" ∷ decimal n ∷ []
line_parts (split_line n) = codes "split" ∷ decimal n ∷ []
line_parts value_line = codes "value" ∷ []
line_parts (slot_line ns) = codes "slot" ∷ map decimal ns
line_parts (clauses_line ns) = codes "clauses" ∷ map decimal ns
line_parts (label_line n answers) = codes "label" ∷ decimal n ∷ map answer_part answers
line_parts (reuse_line n) = codes "reuse" ∷ decimal n ∷ []
line_parts points_line = codes "points" ∷ []
line_parts absent_line = codes "absent" ∷ []
line_parts required_line = codes "required" ∷ []
line_parts (closed_line n) = codes "closed" ∷ decimal n ∷ []
line_parts kinds_line = codes "kinds" ∷ []
line_parts never_line = codes "never" ∷ []
line_parts (member_line n) = codes "member" ∷ decimal n ∷ []
line_parts some_line = codes "some" ∷ []
line_parts (places_line lists) = codes "places" ∷ map places_part lists

-- its text: one space between each two parts, and a line feed at the end
abbrev pub line_text : Line → List ℕ
line_text l = join_with_byte 32 (line_parts l) ++ 10 ∷ []

-- the line with which a comparison answers, and which may stand before a certificate
abbrev pub verdict_line : List ℕ
verdict_line = codes "not more permissive\n"
