-- What stands before the certificate of a summary: a line that says how many findings there are, and for each two lines, its text and
-- a request. And the first line that isn't so.
use Rattle.std.specs.Prelude.{◌≡◌, ◌≤◌, ◌<◌, ◌+◌, ◌*◌, ◌⊎◌, ⊤, ℕ, List, [], ◌∷◌, ◌++◌, length, Ok}
use Rattle.command_words.specs.declared.limits.TheConstants.{MOST_FINDINGS}
use Rattle.policy_model.specs.declared.request.Request.{Request}
use Rattle.policy_model.specs.declared.schema.Schema.{Schema}
use Rattle.strata.specs.declared.stratum.Stratum.{Stratum}
use Rattle.findings.specs.Findings.{IsFinding}
use Rattle.findings.specs.Texts.{finding_text}
use Rattle.request_json.specs.RequestFiles.{request_from}
use Rattle.proof_text.specs.LineForms.{lines_of}
use Rattle.summary_answers.specs.FindingTexts.{count_line}
use Rattle.certified_summaries.specs.declared.fault.HeadCode.{HeadCode}
use Rattle.certified_summaries.specs.declared.fault.HeadCode.TheVariants.{C5Count, C6Finding, C7Request}
use Rattle.certified_summaries.specs.declared.fault.HeadFault.{HeadFault}

-- ---- lines

-- the line is the text of the finding, byte for byte, ended by a line feed
pub record IsFindingLine (ds : List Stratum) (line f : List ℕ) : Type 0 where
  pub finding : IsFinding ds f
  pub written : line ≡ finding_text ds f ++ 10 ∷ []

-- the line, ended by a line feed, is read as the request, as the file of one is
pub record IsRequestLine (schema : Schema) (line : List ℕ) (r : Request) : Type 0 where
  pub content : List ℕ
  pub ended : line ≡ content ++ 10 ∷ []
  pub read : request_from schema content ≡ Ok r

-- it is that of none
abbrev pub IsNoFindingLine : List Stratum → List ℕ → Type 0
IsNoFindingLine ds line = (f : List ℕ) → ¬ IsFindingLine ds line f

abbrev pub IsNoRequestLine : Schema → List ℕ → Type 0
IsNoRequestLine schema line = (r : Request) → ¬ IsRequestLine schema line r

-- two lines of a finding with a request
pub record IsPairAt (schema : Schema) (ds : List Stratum) (line next : List ℕ) (p : List ℕ × Request) : Type 0 where
  pub finding : IsFindingLine ds line p.0
  pub request : IsRequestLine schema next p.1

-- the lines are those of these pairs, in their order
abbrev pub ArePairLines : Schema → List Stratum → List (List ℕ) → List (List ℕ × Request) → Type 0
ArePairLines schema ds [] [] = ⊤
ArePairLines schema ds [] (p ∷ pairs) = ⊥
ArePairLines schema ds (line ∷ []) pairs = ⊥
ArePairLines schema ds (line ∷ next ∷ lines) [] = ⊥
ArePairLines schema ds (line ∷ next ∷ lines) (p ∷ pairs) = IsPairAt schema ds line next p × ArePairLines schema ds lines pairs

-- ---- the head of a file

-- the first line says how many pairs there are, at most 1,000,000, and the lines of the pairs follow; whatever stands behind them
pub record IsHead (schema : Schema) (ds : List Stratum) (bytes : List ℕ) (pairs : List (List ℕ × Request)) : Type 0 where
  pub few : length pairs ≤ MOST_FINDINGS
  pub front : List (List ℕ)
  pub behind : List (List ℕ)
  pub lines : lines_of bytes ≡ count_line (length pairs) ∷ (front ++ behind)
  pub are : ArePairLines schema ds front pairs

-- how many lines the head of so many pairs has
abbrev pub head_lines : List (List ℕ × Request) → ℕ
head_lines pairs = 2 * length pairs + 1

-- ---- the first line that fails

abbrev pub head_fault_at : ℕ → HeadCode → HeadFault
head_fault_at line code = record { code = code; line = line }

-- the first line says that so many pairs follow, at most 1,000,000
pub record SaysCount (lines : List (List ℕ)) (count : ℕ) : Type 0 where
  pub few : count ≤ MOST_FINDINGS
  pub behind : List (List ℕ)
  pub is : lines ≡ count_line count ∷ behind

-- it says of no number that so many do
pub record CountFails (bytes : List ℕ) (fault : HeadFault) : Type 0 where
  pub none : (count : ℕ) → ¬ SaysCount (lines_of bytes) count
  pub is : fault ≡ head_fault_at 1 C5Count

-- the line of a finding, of this number, is missing, or it is that of none
abbrev pub FindingFails : List Stratum → ℕ → List (List ℕ) → HeadFault → Type 0
FindingFails ds n [] fault = fault ≡ head_fault_at n C5Count
FindingFails ds n (line ∷ lines) fault = IsNoFindingLine ds line × (fault ≡ head_fault_at n C6Finding)

-- as above, for the line of a request
abbrev pub RequestFails : Schema → ℕ → List (List ℕ) → HeadFault → Type 0
RequestFails schema n [] fault = fault ≡ head_fault_at n C5Count
RequestFails schema n (line ∷ lines) fault = IsNoRequestLine schema line × (fault ≡ head_fault_at n C7Request)

-- the line of a finding is one, and that of its request behind it isn't
pub record SecondFails (schema : Schema) (ds : List Stratum) (n : ℕ) (lines : List (List ℕ)) (fault : HeadFault) : Type 0 where
  pub line : List ℕ
  pub finding : List ℕ
  pub behind : List (List ℕ)
  pub lines_are : lines ≡ line ∷ behind
  pub of : IsFindingLine ds line finding
  pub fails : RequestFails schema (n + 1) behind fault

-- the first line of a pair that fails. The pair's first line has this number
abbrev pub PairFails : Schema → List Stratum → ℕ → List (List ℕ) → HeadFault → Type 0
PairFails schema ds n lines fault = FindingFails ds n lines fault ⊎ SecondFails schema ds n lines fault

-- behind the lines of fewer pairs than there must be a line of the next pair fails
pub record FailsBehind (schema : Schema) (ds : List Stratum) (bytes : List ℕ) (fault : HeadFault) : Type 0 where
  pub count : ℕ
  pub few : count ≤ MOST_FINDINGS
  pub pairs : List (List ℕ × Request)
  pub front : List (List ℕ)
  pub behind : List (List ℕ)
  pub lines : lines_of bytes ≡ count_line count ∷ (front ++ behind)
  pub are : ArePairLines schema ds front pairs
  pub fewer : length pairs < count
  pub fails : PairFails schema ds (head_lines pairs + 1) behind fault

-- the first line of a file's head that fails: the line of the count, or one of a pair
abbrev pub IsHeadFault : Schema → List Stratum → List ℕ → HeadFault → Type 0
IsHeadFault schema ds bytes fault = CountFails bytes fault ⊎ FailsBehind schema ds bytes fault
