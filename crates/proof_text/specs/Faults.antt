-- The first line of a file at which it isn't a certificate. Lines are taken one by one: what must stand at a line is known, each line
-- takes one expected part away, and calls for others. The first line that isn't of a form that may stand there, or that fails another
-- check, is the fault's.
use Rattle.std.specs.Prelude.{ℕ, ◌+◌, ◌==◌, ◌&&◌, List, [], ◌∷◌, ◌++◌, map, drop, replicate, Bool, true, not, nat_le, nat_lt}
use Rattle.std.specs.Prelude.{Option, Some, None, option_map, bytes_eq, if◌then◌else◌}
use Rattle.std.specs.List.{concat, list_all, list_any}
use Rattle.std.specs.Option.{option_or}
use Rattle.formula_tree.specs.Answers.{Answers}
use Rattle.json_shapes.specs.Checks.{Check, first_fault}
use Rattle.pattern_automata.specs.Closed.{all_rise, rises_from}
use Rattle.proof_text.specs.declared.fault.ProofCode.{ProofCode}
use Rattle.proof_text.specs.declared.fault.ProofCode.TheVariants.{C1Syntax, C2Version, C3TestNumber, C4Limit}
use Rattle.proof_text.specs.declared.fault.ProofFault.{ProofFault}
use Rattle.proof_text.specs.declared.limits.Limits.{Limits}
use Rattle.proof_text.specs.declared.limits.TheConstants.{MOST_NESTING, MOST_NUMBER}
use Rattle.proof_text.specs.LineForms.{Expected, ExpectClosedSet, ExpectKindProof, ExpectNode, ExpectSlotProof, ExpectState, ExpectVersion, line_said}
use Rattle.proof_text.specs.LineForms.{lines_of}
use Rattle.proof_text.specs.Lines.{Line, certificate_line, split_line, slot_line, clauses_line, label_line, reuse_line}
use Rattle.proof_text.specs.Lines.{closed_line, kinds_line, member_line, some_line, places_line, verdict_line}

-- ---- checks of a line that is of its form

-- the tests of answers
abbrev pub answered_tests : Answers → List ℕ
answered_tests answers = map (λ p. p.0) answers

-- all numbers of a line
abbrev pub numbers_in : Line → List ℕ
numbers_in (certificate_line n) = n ∷ []
numbers_in (split_line n) = n ∷ []
numbers_in (slot_line ns) = ns
numbers_in (clauses_line ns) = ns
numbers_in (label_line n answers) = n ∷ answered_tests answers
numbers_in (reuse_line n) = n ∷ []
numbers_in (closed_line n) = n ∷ []
numbers_in (member_line n) = n ∷ []
numbers_in (places_line lists) = concat lists
numbers_in l = []

-- those that number tests
abbrev pub tests_named : Line → List ℕ
tests_named (split_line n) = n ∷ []
tests_named (slot_line ns) = ns
tests_named (label_line n answers) = answered_tests answers
tests_named (member_line n) = n ∷ []
tests_named l = []

-- how many splits and labels a node is below
abbrev pub depth_at : Expected → ℕ
depth_at (ExpectNode depth inside) = depth
depth_at e = 0

-- the numbers of the labels that it is inside of
abbrev pub labels_around : Expected → List ℕ
labels_around (ExpectNode depth inside) = inside
labels_around e = []

-- a label's node has ended where the label began before, and where the line isn't inside of it
abbrev pub has_ended : ℕ → List ℕ → ℕ → Bool
has_ended begun inside n = nat_lt n begun && not (list_any (λ m. m == n) inside)

-- where so many labels began before: the tests of a core, those of a label's answers and the places of each pattern strictly rise, a
-- closed set has a product state, a label has the next number, and the node of a label that is used again has ended
abbrev pub is_ordered : ℕ → Expected → Line → Bool
is_ordered begun e (slot_line ns) = rises_from 0 ns
is_ordered begun e (places_line lists) = all_rise lists
is_ordered begun e (closed_line n) = nat_le 1 n
is_ordered begun e (label_line n answers) = (n == begun) && rises_from 0 (answered_tests answers)
is_ordered begun e (reuse_line n) = has_ended begun (labels_around e) n
is_ordered begun e l = true

-- the format's number is this
abbrev pub is_of_version : ℕ → Line → Bool
is_of_version version (certificate_line n) = n == version
is_of_version version l = true

-- a split or a label is below few enough others
abbrev pub is_shallow : Expected → Line → Bool
is_shallow e (split_line n) = nat_lt (depth_at e) MOST_NESTING
is_shallow e (label_line n answers) = nat_lt (depth_at e) MOST_NESTING
is_shallow e l = true

abbrev pub line_check : Bool → ProofCode → Check ProofCode
line_check passes code = record { passes = passes; fault = code }

-- the checks of a line that is of its form, in this order
abbrev pub line_checks : Limits → ℕ → Expected → Line → List (Check ProofCode)
line_checks limits begun e l =
    line_check (list_all (λ n. nat_le n MOST_NUMBER) (numbers_in l)) C4Limit ∷
    line_check (is_ordered begun e l) C1Syntax ∷
    line_check (is_of_version limits.version l) C2Version ∷
    line_check (list_all (λ n. nat_lt n limits.tests) (tests_named l)) C3TestNumber ∷
    line_check (is_shallow e l) C4Limit ∷ []

-- the first check that a line fails where this must stand and so many labels began before: that it is of a form that may, and then the
-- others
abbrev pub fault_of_line : Limits → ℕ → Expected → Option Line → Option ProofCode
fault_of_line limits begun e None = Some C1Syntax
fault_of_line limits begun e (Some l) = first_fault (line_checks limits begun e l)

-- ---- what a line calls for

-- the version calls for a node, a split for two nodes one deeper, a label for one that is inside of it too, a core for its proof, four
-- kinds for a proof each, a member for a closed set, and a closed set for its product states
abbrev pub calls_for : Expected → Line → List Expected
calls_for e (certificate_line n) = ExpectNode 0 [] ∷ []
calls_for e (split_line n) = ExpectNode (depth_at e + 1) (labels_around e) ∷ ExpectNode (depth_at e + 1) (labels_around e) ∷ []
calls_for e (slot_line ns) = ExpectSlotProof ∷ []
calls_for e (label_line n answers) = ExpectNode (depth_at e + 1) (labels_around e ++ n ∷ []) ∷ []
calls_for e kinds_line = ExpectKindProof ∷ ExpectKindProof ∷ ExpectKindProof ∷ ExpectKindProof ∷ []
calls_for e (member_line n) = ExpectClosedSet ∷ []
calls_for e some_line = ExpectClosedSet ∷ []
calls_for e (closed_line n) = replicate n ExpectState
calls_for e l = []

abbrev pub expected_after : Expected → Option Line → List Expected
expected_after e None = []
expected_after e (Some l) = calls_for e l

-- how many labels a line begins
abbrev pub labels_begun : Line → ℕ
labels_begun (label_line n answers) = 1
labels_begun l = 0

abbrev pub labels_said : Option Line → ℕ
labels_said None = 0
labels_said (Some l) = labels_begun l

-- ---- files

abbrev pub proof_fault_at : ℕ → ProofCode → ProofFault
proof_fault_at n code = record { code = code; line = n }

-- the first fault of lines that must have these parts in this order, and nothing behind them. The first line has this number, and so many
-- labels began before it. A fault is a line behind the end, a missing line, whose number is the one after the last, or a line
-- that fails a check
abbrev pub fault_from : Limits → List Expected → ℕ → ℕ → List (List ℕ) → Option ProofFault
fault_from limits [] n begun [] = None
fault_from limits [] n begun (line ∷ lines) = Some (proof_fault_at n C1Syntax)
fault_from limits (e ∷ es) n begun [] = Some (proof_fault_at n C1Syntax)
fault_from limits (e ∷ es) n begun (line ∷ lines) =
    option_or (option_map (proof_fault_at n) (fault_of_line limits begun e (line_said e line)))
    (fault_from limits (expected_after e (line_said e line) ++ es) (n + 1) (begun + labels_said (line_said e line)) lines)

-- how many lines are skipped: the answer of a comparison, where it stands first
abbrev pub skipped_count : List (List ℕ) → ℕ
skipped_count [] = 0
skipped_count (line ∷ lines) = (if bytes_eq line verdict_line then 1 else 0)

-- the first fault of a file that has so many lines before the certificate, or none. Lines are counted from the file's first, from 1
unfoldable pub fault_after : Limits → ℕ → List ℕ → Option ProofFault
fault_after limits front bytes = fault_from limits (ExpectVersion ∷ []) (front + 1) 0 (drop front (lines_of bytes))

-- that of a file before whose certificate nothing but the answer of a comparison may stand
unfoldable pub proof_fault : Limits → List ℕ → Option ProofFault
proof_fault limits bytes = fault_after limits (skipped_count (lines_of bytes)) bytes
