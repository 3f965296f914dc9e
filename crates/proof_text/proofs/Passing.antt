-- The lines of a refutation that closes a query have no fault.
use Rattle.std.proofs.Common.{◌≡◌, ℕ, ◌+◌, ◌<◌, ◌≤◌, true, List, [], ◌∷◌, ◌++◌, Some, None, Option, All, refl, ◌∙◌, le-leb, lt-ltb}
use Rattle.std.specs.Prelude.{nat_le, nat_lt}
use Rattle.std.specs.List.{list_all}
use Rattle.std.proofs.lemmas.List.Elements.{All-head, All-tail}
use Rattle.proof_text.specs.declared.limits.Limits.{Limits}
use Rattle.proof_text.specs.declared.limits.TheConstants.{MOST_NUMBER}
use Rattle.proof_text.specs.Faults.{expected_after, calls_for, fault_from, fault_of_line, is_of_version, is_ordered, is_shallow, labels_begun, labels_said, numbers_in, tests_named}
use Rattle.proof_text.specs.Laws.{AreSmall, HasSmallNumbers}
use Rattle.proof_text.specs.LineForms.{Expected, line_said}
use Rattle.proof_text.specs.Lines.{Line, line_text}
use Rattle.proof_text.proofs.Said.{MayStand, said-again}

-- ---- one line

-- where so many labels began before, the line passes the checks besides that its numbers are small
pub record IsFit (limits : Limits) (begun : ℕ) (e : Expected) (l : Line) : Type 0 where
  pub ordered : is_ordered begun e l ≡ true
  pub version : is_of_version limits.version l ≡ true
  pub tests : list_all (λ n. nat_lt n limits.tests) (tests_named l) ≡ true
  pub shallow : is_shallow e l ≡ true

small-test : (ns : List ℕ) → AreSmall ns → list_all (λ n. nat_le n MOST_NUMBER) ns ≡ true
small-test [] small = refl
small-test (n ∷ ns) small =
    rw (le-leb n MOST_NUMBER (All-head (λ m. m ≤ MOST_NUMBER) n ns small)) (small-test ns (All-tail (λ m. m ≤ MOST_NUMBER) n ns small))

pub tests-test : (count : ℕ) (ns : List ℕ) → All (λ n. n < count) ns → list_all (λ n. nat_lt n count) ns ≡ true
tests-test count [] within = refl
tests-test count (n ∷ ns) within =
    rw (lt-ltb n count (All-head (λ m. m < count) n ns within)) (tests-test count ns (All-tail (λ m. m < count) n ns within))

checked : (limits : Limits) (begun : ℕ) (e : Expected) (l : Line) → HasSmallNumbers l → IsFit limits begun e l → fault_of_line limits begun e (Some l) ≡ None
checked limits begun e l small fit = rw (small-test (numbers_in l) small, fit.ordered, fit.version, fit.tests, fit.shallow) refl

-- ---- lines

-- the lines have no fault where these parts must stand and so many labels began before, whatever their numbers
abbrev pub Pass : Limits → List Expected → ℕ → List (List ℕ) → Type 0
Pass limits es begun lines = (n : ℕ) → fault_from limits es n begun lines ≡ None

one-step : (limits : Limits) (es : List Expected) (e : Expected) (begun n : ℕ) (line : List ℕ) (lines : List (List ℕ)) (said : Option Line) →
    line_said e line ≡ said → fault_of_line limits begun e said ≡ None → fault_from limits (e ∷ es) n begun (line ∷ lines) ≡ fault_from limits (expected_after e said ++ es) (n + 1) (begun + labels_said said) lines
one-step limits es e begun n line lines said is none = rw (is, none) refl

pub line-passes : (limits : Limits) (es : List Expected) (e : Expected) (begun : ℕ) (l : Line) (lines : List (List ℕ)) → MayStand e l → HasSmallNumbers l → IsFit limits begun e l →
    Pass limits (calls_for e l ++ es) (begun + labels_begun l) lines → Pass limits (e ∷ es) begun (line_text l ∷ lines)
line-passes limits es e begun l lines may small fit later n =
    one-step limits es e begun n (line_text l) lines (Some l) (said-again e l may small) (checked limits begun e l small fit) ∙ later (n + 1)
