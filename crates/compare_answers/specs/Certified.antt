-- What a certificate shows of the query of a run.
use Rattle.std.specs.Prelude.{◌≡◌, ◌≤◌, ◌+◌, ℕ, List, ◌++◌, length, slice_get, Some, None, Option}
use Rattle.policy_compile.specs.declared.outcome.Query.{Query}
use Rattle.policy_compile.specs.Queries.{asked_tree}
use Rattle.policy_model.specs.declared.schema.Schema.{Schema}
use Rattle.refute_check.specs.Proofs.{Proof}
use Rattle.proof_text.specs.Faults.{proof_fault, skipped_count}
use Rattle.proof_text.specs.Laws.{IsSmall, limits_of}
use Rattle.proof_text.specs.LineForms.{lines_of}
use Rattle.proof_text.specs.Lines.{verdict_line}
use Rattle.proof_text.specs.Spelling.{IsCertificateOf, certificate_text, node_line_numbers}
use Rattle.proof_text.specs.declared.fault.ProofFault.{ProofFault}
use Rattle.proof_text.specs.declared.limits.TheConstants.{MOST_PROOF_BYTES}
use Rattle.search_parts.specs.Trimmed.{IsTrimmed}
use Rattle.refute_check.specs.Queries.{ClosesAll, FailsAll}

-- the first fault of a certificate for the query: it is read for the number of its tests, in the format of the schema's version
abbrev pub fault_for : Schema → Query → List ℕ → Option ProofFault
fault_for schema q bytes = proof_fault (limits_of q.tests schema.version) bytes

-- the file has no fault, and the refutation that it is the certificate of closes the query. It is the certificate of no other, since
-- its numbers are small
pub record ClosesBy (schema : Schema) (q : Query) (bytes : List ℕ) : Type 0 where
  pub faultless : fault_for schema q bytes ≡ None
  pub proof : Proof
  pub spelled : IsCertificateOf schema.version bytes proof
  pub small : IsSmall schema.version proof
  pub closes : ClosesAll schema q proof

-- the file has no fault, and this is the line of the first node that fails
pub record FailsAtLine (schema : Schema) (q : Query) (bytes : List ℕ) (line : ℕ) : Type 0 where
  pub faultless : fault_for schema q bytes ≡ None
  pub proof : Proof
  pub spelled : IsCertificateOf schema.version bytes proof
  pub small : IsSmall schema.version proof
  pub node : ℕ
  pub fails : FailsAll schema q proof node
  pub line_is : slice_get (node_line_numbers (skipped_count (lines_of bytes) + 2) proof) node ≡ Some line

-- the first fault of the file
abbrev pub HasProofFault : Schema → Query → List ℕ → ProofFault → Type 0
HasProofFault schema q bytes fault = fault_for schema q bytes ≡ Some fault

-- the text with the line `not more permissive` before it, which is the whole text of the answer, has no fault, and the refutation that
-- it is the certificate of closes the query, as long as it has at most as many bytes as a certificate may have
abbrev pub IsReadable : Schema → Query → List ℕ → Type 0
IsReadable schema q text =
    length (verdict_line ++ text) ≤ MOST_PROOF_BYTES → ClosesBy schema q (verdict_line ++ text)

-- the text is the certificate of a trimmed refutation that closes the query, and is read again as one. That `check` of the same files and of
-- what was written answers `accepted` is a law of its own
pub record Certifies (schema : Schema) (q : Query) (text : List ℕ) : Type 0 where
  pub proof : Proof
  pub spelled : text ≡ certificate_text schema.version proof
  pub closes : ClosesAll schema q proof
  pub trimmed : IsTrimmed schema q.tests (asked_tree q) proof
  pub readable : IsReadable schema q text
