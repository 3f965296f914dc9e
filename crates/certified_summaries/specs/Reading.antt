-- What readers of the lines of a head answer.
use Rattle.std.specs.Prelude.{◌≡◌, ◌≢◌, ◌≤◌, ◌<◌, ◌^◌, ⊤, ℕ, List, ◌∷◌, All, length, map, slice_get, Option, Some, None, Result, Ok, Err, String}
use Rattle.std.specs.Borrow.{Bor}
use Rattle.std.specs.Str.{IsUtf8}
use Rattle.serde_json.specs.Data.{Data, string}
use Rattle.serde_json.specs.declared.value.Value.{Value}
use Rattle.command_words.specs.Asked.{texts_in}
use Rattle.command_words.specs.declared.limits.TheConstants.{MOST_FINDINGS}
use Rattle.json_shapes.specs.Json.{views}
use Rattle.policy_model.specs.declared.request.Request.{Request}
use Rattle.policy_model.specs.declared.schema.Schema.{Schema}
use Rattle.strata.specs.declared.stratum.Stratum.{Stratum}
use Rattle.findings.specs.Findings.{IsFinding}
use Rattle.findings.specs.Texts.{finding_text, predicate_text, predicate_texts}
use Rattle.request_json.specs.RequestFiles.{request_from}
use Rattle.proof_text.specs.LineForms.{lines_of}
use Rattle.summary_answers.specs.FindingTexts.{count_line}
use Rattle.certified_summaries.specs.declared.fault.HeadAnswer.{HeadAnswer}
use Rattle.certified_summaries.specs.declared.fault.HeadAnswer.TheVariants.{NoMemory, Refused}
use Rattle.certified_summaries.specs.Heads.{FindingFails, IsFindingLine, IsHead, IsHeadFault, IsPairAt, IsRequestLine, PairFails, RequestFails, SaysCount}

-- ---- texts of predicates

-- the texts of the predicates of a dimension
abbrev pub texts_of_dimension : Stratum → List (List ℕ)
texts_of_dimension d = map predicate_text d.predicates

-- so many that 32 bits number them
abbrev pub IsNumberable : {X : Type 0} → List X → Type 0
IsNumberable xs = length xs < 2 ^ 32

-- the texts of the predicates of each dimension, by their numbers
pub record AreTextsOf {Z : Type 0} (ds : List Stratum) (table : List (List (String Z))) : Type 0 where
  pub are : map (λ texts. texts_in texts) table ≡ map texts_of_dimension ds
  pub utf8 : All (λ texts. All IsUtf8 (texts_in texts)) table
  pub few : All IsNumberable table

-- ---- findings and requests

-- the number of a text, or that it is none of these
abbrev pub IsNumberOf : List (List ℕ) → List ℕ → Option ℕ → Type 0
IsNumberOf texts text None = (n : ℕ) → slice_get texts n ≢ Some text
IsNumberOf texts text (Some n) = slice_get texts n ≡ Some text

-- the number of a text that the value is, as a string, or that there is none
abbrev pub IsNumberIn : List (List ℕ) → Data → Option ℕ → Type 0
IsNumberIn texts d None = (n : ℕ) (text : List ℕ) → slice_get texts n ≡ Some text → d ≢ string text
IsNumberIn texts d (Some n) = (text : List ℕ) × (slice_get texts n ≡ Some text) × (d ≡ string text)

-- the finding whose predicates have these texts, as JSON, or that there is none
abbrev pub IsFindingIn : List Stratum → List Value → Option (List ℕ) → Type 0
IsFindingIn ds values None = (f : List ℕ) → IsFinding ds f → views values ≢ map string (predicate_texts ds f)
IsFindingIn ds values (Some f) = IsFinding ds f × (views values ≡ map string (predicate_texts ds f))

-- the finding of a text, or that there is none
abbrev pub IsFindingOf : List Stratum → List ℕ → Option (List ℕ) → Type 0
IsFindingOf ds text None = (f : List ℕ) → IsFinding ds f → text ≢ finding_text ds f
IsFindingOf ds text (Some f) = IsFinding ds f × (text ≡ finding_text ds f)

-- the request that a text is read as, or that there is none
abbrev pub IsRequestOf : Schema → List ℕ → Option Request → Type 0
IsRequestOf schema text None = (r : Request) → request_from schema text ≢ Ok r
IsRequestOf schema text (Some r) = request_from schema text ≡ Ok r

-- ---- lines

-- the number that a line says, at most 1,000,000, or that it says none
abbrev pub IsCountIn : List ℕ → Option ℕ → Type 0
IsCountIn line None = (count : ℕ) → count ≤ MOST_FINDINGS → line ≢ count_line count
IsCountIn line (Some count) = (count ≤ MOST_FINDINGS) × (line ≡ count_line count)

-- how many pairs the first line says that there are, and what stands behind it, or that it doesn't
abbrev pub IsCountRead : List ℕ → Option (ℕ × Bor (List ℕ)) → Type 0
IsCountRead bytes None = (count : ℕ) → ¬ SaysCount (lines_of bytes) count
IsCountRead bytes (Some r) = (r.0 ≤ MOST_FINDINGS) × (lines_of bytes ≡ count_line r.0 ∷ lines_of r.1.now)

-- a first line that satisfies P, and what stands behind it
pub record IsLineOf (P : List ℕ → Type 0) (bytes behind : List ℕ) : Type 0 where
  pub line : List ℕ
  pub is : lines_of bytes ≡ line ∷ lines_of behind
  pub holds : P line

-- what stands at a line of this number, and what stands behind it, or the fault there
abbrev pub IsFindingRead : List Stratum → ℕ → List ℕ → Result (List ℕ × Bor (List ℕ)) HeadAnswer → Type 0
IsFindingRead ds n bytes (Ok r) = IsLineOf (λ line. IsFindingLine ds line r.0) bytes r.1.now
IsFindingRead ds n bytes (Err (Refused fault)) = FindingFails ds n (lines_of bytes) fault
IsFindingRead ds n bytes (Err NoMemory) = ⊤

abbrev pub IsRequestRead : Schema → ℕ → List ℕ → Result (Request × Bor (List ℕ)) HeadAnswer → Type 0
IsRequestRead schema n bytes (Ok r) = IsLineOf (λ line. IsRequestLine schema line r.0) bytes r.1.now
IsRequestRead schema n bytes (Err (Refused fault)) = RequestFails schema n (lines_of bytes) fault
IsRequestRead schema n bytes (Err NoMemory) = ⊤

-- the two lines of a pair, and what stands behind them
pub record ArePairRead (schema : Schema) (ds : List Stratum) (bytes : List ℕ) (p : List ℕ × Request) (behind : List ℕ) : Type 0 where
  pub line : List ℕ
  pub next : List ℕ
  pub is : lines_of bytes ≡ line ∷ next ∷ lines_of behind
  pub pair : IsPairAt schema ds line next p

abbrev pub IsPairRead : Schema → List Stratum → ℕ → List ℕ → Result ((List ℕ × Request) × Bor (List ℕ)) HeadAnswer → Type 0
IsPairRead schema ds n bytes (Ok r) = ArePairRead schema ds bytes r.0 r.1.now
IsPairRead schema ds n bytes (Err (Refused fault)) = PairFails schema ds n (lines_of bytes) fault
IsPairRead schema ds n bytes (Err NoMemory) = ⊤

-- the pairs of a file's head, or the first line that fails
abbrev pub IsHeadRead : Schema → List Stratum → List ℕ → Result (List (List ℕ × Request)) HeadAnswer → Type 0
IsHeadRead schema ds bytes (Ok pairs) = IsHead schema ds bytes pairs
IsHeadRead schema ds bytes (Err (Refused fault)) = IsHeadFault schema ds bytes fault
IsHeadRead schema ds bytes (Err NoMemory) = ⊤
