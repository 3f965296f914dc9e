-- The query of a cover of a region's findings, and certificates that it is no.
use Rattle.std.specs.Prelude.{◌≡◌, ◌≤◌, ◌+◌, ℕ, List, [], slice_get, Option, Some, None, Any}
use Rattle.policy_model.specs.declared.request.Request.{Request}
use Rattle.policy_model.specs.declared.schema.Schema.{Schema}
use Rattle.policy_model.specs.Requests.{IsValid}
use Rattle.policy_compile.specs.declared.outcome.Query.{Query}
use Rattle.policy_compile.specs.Numbering.{HasTooMany}
use Rattle.policy_compile.specs.Plans.{tests_in}
use Rattle.policy_compile.specs.Queries.{asked_tree}
use Rattle.refute_check.specs.Proofs.{Proof, depth}
use Rattle.search_parts.specs.Trimmed.{IsTrimmed}
use Rattle.strata.specs.declared.stratum.Strata.{Strata}
use Rattle.strata.specs.declared.stratum.Stratum.{Stratum}
use Rattle.findings.specs.declared.region.Region.{Region}
use Rattle.findings.specs.CoverQueries.{CoverHasTooMany, IsCoverQuery, cover_plan}
use Rattle.findings.specs.Findings.{LiesInFinding}
use Rattle.findings.specs.Regions.{LiesInRegion, region_plan}
use Rattle.proof_text.specs.Faults.{fault_after}
use Rattle.proof_text.specs.Laws.{HoldsSmallNumbers, IsSmall, limits_of}
use Rattle.proof_text.specs.LineForms.{bytes_after}
use Rattle.proof_text.specs.Spelling.{certificate_text, node_line_numbers}
use Rattle.proof_text.specs.declared.fault.ProofFault.{ProofFault}
use Rattle.proof_text.specs.declared.limits.TheConstants.{MOST_NESTING, MOST_NUMBER}
use Rattle.run_inputs.specs.declared.printed.Printed.{Printed}
use Rattle.run_inputs.specs.declared.status.Status.TheVariants.{Refused}
use Rattle.run_inputs.specs.Printing.{PrintsText}
use Rattle.refute_check.specs.Queries.{ClosesAll, FailsAll}
use Rattle.certified_summaries.specs.CoverTexts.{cover_tests_line}

-- ---- the query

-- of the query of the cover, whether a request of the region lies in none of the findings, this holds
pub record OfCover (schema : Schema) (region : Region) (ds : List Stratum) (fs : List (List ℕ)) (P : Query → Type 0) : Type 0 where
  pub query : Query
  pub is : IsCoverQuery (region_plan schema region) ds fs query
  pub holds : P query

-- it has more than 1,000 tests
abbrev pub CoverIsTooLarge : Schema → Region → List Stratum → List (List ℕ) → Type 0
CoverIsTooLarge schema region ds fs = HasTooMany [] (tests_in (cover_plan (region_plan schema region) ds fs))

-- each valid request of the region lies in one of the findings
abbrev pub LeaveNobodyOut : Schema → Region → List Stratum → List (List ℕ) → Type 0
LeaveNobodyOut schema region ds fs = (r : Request) → IsValid schema r → LiesInRegion schema region r → Any (LiesInFinding r ds) fs

-- ---- a certificate behind other lines of a file

-- the first fault of a certificate for the query behind so many lines, in the format of the schema's version
abbrev pub fault_of_cover : Schema → Query → ℕ → List ℕ → Option ProofFault
fault_of_cover schema q front bytes = fault_after (limits_of q.tests schema.version) front bytes

-- behind so many lines the file has no fault, and the refutation that stands there closes the query. The text is that of no other, since
-- its numbers are small
pub record ClosesBehind (schema : Schema) (q : Query) (front : ℕ) (bytes : List ℕ) : Type 0 where
  pub faultless : fault_of_cover schema q front bytes ≡ None
  pub proof : Proof
  pub spelled : bytes_after front bytes ≡ certificate_text schema.version proof
  pub small : IsSmall schema.version proof
  pub closes : ClosesAll schema q proof

-- behind so many lines the file has no fault, and this is the line, counted from the file's first, of the first node that fails
pub record FailsBehindAt (schema : Schema) (q : Query) (front : ℕ) (bytes : List ℕ) (line : ℕ) : Type 0 where
  pub faultless : fault_of_cover schema q front bytes ≡ None
  pub proof : Proof
  pub spelled : bytes_after front bytes ≡ certificate_text schema.version proof
  pub small : IsSmall schema.version proof
  pub node : ℕ
  pub fails : FailsAll schema q proof node
  pub line_is : slice_get (node_line_numbers (front + 2) proof) node ≡ Some line

-- ---- a certificate that is printed

-- the text is the certificate of a trimmed refutation that closes the query, within what a certificate may hold
pub record CertifiesCover (schema : Schema) (q : Query) (text : List ℕ) : Type 0 where
  pub proof : Proof
  pub spelled : text ≡ certificate_text schema.version proof
  pub closes : ClosesAll schema q proof
  pub trimmed : IsTrimmed schema q.tests (asked_tree q) proof
  pub nests : depth proof ≤ MOST_NESTING
  pub small : HoldsSmallNumbers proof
  pub version : schema.version ≤ MOST_NUMBER

-- ---- parts

-- the line on the query of the cover is printed, which has more than 1,000 tests whichever region the base is of
pub record IsLargePrinted (base : Query) (strata : Strata) (fs : List (List ℕ)) (p : Printed) : Type 0 where
  pub large : CoverHasTooMany base strata.dimensions fs
  pub prints : PrintsText cover_tests_line Refused p
