-- What the readers of parts of a certificate answer.
use Rattle.std.specs.Prelude.{◌≡◌, ◌≢◌, ◌⊎◌, ◌≤◌, All, ℕ, ◌+◌, ◌==◌, List, [], ◌∷◌, ◌++◌, drop, map, length, Bool, true, false, nat_le}
use Rattle.std.specs.Prelude.{◌&&◌, Option, Some, None, Result, Ok, Err, if◌then◌else◌}
use Rattle.std.specs.Borrow.{Bor}
use Rattle.std.specs.List.{list_all, slice_split}
use Rattle.formula_tree.specs.Answers.{Answers}
use Rattle.proof_text.specs.Faults.{fault_from, fault_of_line, labels_begun, proof_fault_at, skipped_count}
use Rattle.refute_check.specs.Proofs.{proof_of}
use Rattle.proof_text.specs.Laws.{HasSmallNumbers, IsSmall}
use Rattle.proof_text.specs.LineForms.{Expected, ExpectVersion, answers_of, lines_of, number_said}
use Rattle.proof_text.specs.Lines.{Line, line_text, verdict_line}
use Rattle.proof_text.specs.Spelling.{certificate_text, node_line_numbers}
use Rattle.proof_text.specs.declared.fault.LineAnswer.{LineAnswer}
use Rattle.proof_text.specs.declared.fault.LineAnswer.TheVariants.{Fails, NoMemory as NoLineMemory}
use Rattle.proof_text.specs.declared.fault.ProofAnswer.{ProofAnswer}
use Rattle.proof_text.specs.declared.fault.ProofAnswer.TheVariants.{Refused, NoMemory}
use Rattle.proof_text.specs.declared.fault.ProofCode.TheVariants.{C1Syntax}
use Rattle.proof_text.specs.declared.limits.Limits.{Limits}
use Rattle.proof_text.specs.declared.limits.TheConstants.{MOST_NUMBER, MOST_PROOF_BYTES}
use Rattle.proof_text.specs.declared.location.Location.{Location}
use Rattle.proof_text.specs.declared.read.ReadProof.{ReadProof}

-- what stands behind a part, as parts: nothing, or a text that is cut at each such byte
abbrev pub parts_left : ℕ → Option (List ℕ) → List (List ℕ)
parts_left between None = []
parts_left between (Some text) = slice_split (λ b. b == between) text

abbrev pub is_small : ℕ → Bool
is_small n = nat_le n MOST_NUMBER

abbrev pub are_small : List ℕ → Bool
are_small ns = list_all is_small ns

abbrev pub are_lists_small : List (List ℕ) → Bool
are_lists_small lists = list_all are_small lists

abbrev pub is_answer_small : ℕ × Bool → Bool
is_answer_small p = is_small p.0

abbrev pub are_answers_small : Answers → Bool
are_answers_small answers = list_all is_answer_small answers

abbrev pub is_label_small : ℕ × Answers → Bool
is_label_small l = is_small l.0 && are_answers_small l.1

-- the answer that a sign stands for: a plus or a minus
abbrev pub sign_said : ℕ → Option Bool
sign_said c = (if c == 43 then Some true else (if c == 45 then Some false else None))

-- the number and the answers behind the word of a label
abbrev pub both_given : {X Y : Type 0} → Option X → Option Y → Option (X × Y)
both_given None y = None
both_given (Some x) None = None
both_given (Some x) (Some y) = Some (x, y)

abbrev pub label_parts : List (List ℕ) → Option (ℕ × Answers)
label_parts [] = None
label_parts (part ∷ parts) = both_given (number_said part) (answers_of parts)

-- what a reader of a part of a line answers, whose numbers are to be small: what it says, none where a number is too large, or C1 where
-- it isn't of its form
abbrev pub IsSmallRead : {X : Type 0} → (X → Bool) → Option X → Result (Option X) LineAnswer → Type 0
IsSmallRead small said (Ok (Some x)) = (said ≡ Some x) × (small x ≡ true)
IsSmallRead {X} small said (Ok None) = (x : X) × (said ≡ Some x) × (small x ≡ false)
IsSmallRead small said (Err (Fails code)) = (said ≡ None) × (code ≡ C1Syntax)
IsSmallRead small said (Err NoLineMemory) = Unit {0}

-- what putting the list that a part says behind others answers: whether its numbers are small, and then it is there; or C1 where the part
-- isn't of its form
abbrev pub IsListPut : Option (List ℕ) → List (List ℕ) → List (List ℕ) → Result Bool LineAnswer → Type 0
IsListPut said old new (Ok true) = (ns : List ℕ) × (said ≡ Some ns) × (are_small ns ≡ true) × (new ≡ old ++ ns ∷ [])
IsListPut said old new (Ok false) = (ns : List ℕ) × (said ≡ Some ns) × (are_small ns ≡ false)
IsListPut said old new (Err (Fails code)) = (said ≡ None) × (code ≡ C1Syntax)
IsListPut said old new (Err NoLineMemory) = Unit {0}

-- what a reader of a line answers, where this must stand and so many labels began before: what the line says, which passes each check, or
-- the first check that it fails
abbrev pub IsLineRead : {X : Type 0} → (X → Line) → Limits → ℕ → Expected → Option Line → Result X LineAnswer → Type 0
IsLineRead value limits begun e said (Ok x) = (said ≡ Some (value x)) × (fault_of_line limits begun e (Some (value x)) ≡ None)
IsLineRead value limits begun e said (Err (Fails code)) = fault_of_line limits begun e said ≡ Some code
IsLineRead value limits begun e said (Err NoLineMemory) = Unit {0}

-- the numbers of lines are within 32 bits, and each label that began has a line
abbrev pub HasLineRoom : Location → Type 0
HasLineRoom location = (location.number + length location.bytes.now ≤ MOST_PROOF_BYTES + 2) × (location.begun ≤ location.number)

-- how many labels lines begin
abbrev pub labels_in : List Line → ℕ
labels_in [] = 0
labels_in (l ∷ ls) = labels_begun l + labels_in ls

-- where so many labels began before, lines are all that these parts take, and they begin so many more: whatever must stand behind, and
-- whatever does
abbrev pub AreLinesTaken : Limits → List Expected → ℕ → ℕ → List (List ℕ) → Type 0
AreLinesTaken limits es begun more_begun taken =
    (more : List Expected) (n : ℕ) (rest : List (List ℕ)) →
    fault_from limits (es ++ more) n begun (taken ++ rest) ≡ fault_from limits more (n + length taken) (begun + more_begun) rest

-- from one location to a later one these lines were taken, which the parts ask for, and whose numbers are small
pub record TakesLines (limits : Limits) (es : List Expected) (from : Location) (lines : List Line) (to : Location) : Type 0 where
  pub cut : lines_of from.bytes.now ≡ map line_text lines ++ lines_of to.bytes.now
  pub count : to.number ≡ from.number + length lines
  pub begun : to.begun ≡ from.begun + labels_in lines
  pub taken : AreLinesTaken limits es from.begun (labels_in lines) (map line_text lines)
  pub small : All HasSmallNumbers lines
  pub room : HasLineRoom to

-- the first fault of the lines from a location on, where these parts must stand, whatever must stand behind
abbrev pub FailsFrom : Limits → List Expected → Location → ProofAnswer → Type 0
FailsFrom limits es from (Refused fault) =
    (more : List Expected) → fault_from limits (es ++ more) from.number from.begun (lines_of from.bytes.now) ≡ Some fault
FailsFrom limits es from NoMemory = Unit {0}

-- what a reader of what these parts ask for answers: what the lines stand for, and the location behind them, or the first fault
abbrev pub ArePartsRead : {X : Type 0} → (X → List Line) → Limits → List Expected → Location → Result (X × Location) ProofAnswer → Type 0
ArePartsRead lines limits es from (Ok r) = TakesLines limits es from (lines r.0) r.1
ArePartsRead lines limits es from (Err answer) = FailsFrom limits es from answer

-- one line more: the location behind it
pub record IsBehind (line : List ℕ) (begins : ℕ) (from to : Location) : Type 0 where
  pub cut : lines_of from.bytes.now ≡ line ∷ lines_of to.bytes.now
  pub number : to.number ≡ from.number + 1
  pub begun : to.begun ≡ from.begun + begins
  pub room : HasLineRoom to

-- the line at a location, which must stand there: C1 at its number where the file ends
abbrev pub IsLineAt : Location → Result (Bor (List ℕ) × Location) ProofAnswer → Type 0
IsLineAt from (Ok r) = IsBehind r.0.now 0 from r.1
IsLineAt from (Err answer) = (lines_of from.bytes.now ≡ []) × (answer ≡ Refused (proof_fault_at from.number C1Syntax))

-- the answer at a line that a reader of lines answers
abbrev pub answer_here : ℕ → LineAnswer → ProofAnswer
answer_here n (Fails code) = Refused (proof_fault_at n code)
answer_here n NoLineMemory = NoMemory

-- the location behind so many lines of a file
pub record IsLocationBehind (front : ℕ) (bytes : List ℕ) (location : Location) : Type 0 where
  pub number : location.number ≡ front + 1
  pub begun : location.begun ≡ 0
  pub lines : lines_of location.bytes.now ≡ drop front (lines_of bytes)
  pub room : HasLineRoom location

-- the location of the certificate in a file
pub record IsFirstLocation (bytes : List ℕ) (location : Location) : Type 0 where
  pub number : location.number ≡ skipped_count (lines_of bytes) + 1
  pub begun : location.begun ≡ 0
  pub lines : lines_of location.bytes.now ≡ drop (skipped_count (lines_of bytes)) (lines_of bytes)
  pub whole : (bytes ≡ location.bytes.now) ⊎ (bytes ≡ verdict_line ++ location.bytes.now)
  pub room : HasLineRoom location

-- whether a file ends at a location: C1 at its number where it doesn't
abbrev pub IsEndRead : Location → Result (Unit {0}) ProofAnswer → Type 0
IsEndRead from (Ok u) = from.bytes.now ≡ []
IsEndRead from (Err answer) = (from.bytes.now ≢ []) × (answer ≡ Refused (proof_fault_at from.number C1Syntax))

-- the certificate at a location, at whose nodes these lines begin
pub record IsReadAt (limits : Limits) (start : Location) (read : ReadProof) : Type 0 where
  pub faultless : fault_from limits (ExpectVersion ∷ []) start.number start.begun (lines_of start.bytes.now) ≡ None
  pub spelled : start.bytes.now ≡ certificate_text limits.version (proof_of read.refutation.value)
  pub small : IsSmall limits.version (proof_of read.refutation.value)
  pub lines : read.lines ≡ node_line_numbers (start.number + 1) (proof_of read.refutation.value)

-- what the reader of the certificate at a location answers
abbrev pub IsProofReadAt : Limits → Location → Result ReadProof ProofAnswer → Type 0
IsProofReadAt limits start (Ok read) = IsReadAt limits start read
IsProofReadAt limits start (Err (Refused fault)) =
    fault_from limits (ExpectVersion ∷ []) start.number start.begun (lines_of start.bytes.now) ≡ Some fault
IsProofReadAt limits start (Err NoMemory) = Unit {0}
