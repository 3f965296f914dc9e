-- What a reader of certificates answers.
use Rattle.std.specs.Prelude.{◌≡◌, ◌≢◌, ◌≤◌, ◌+◌, ⊤, ℕ, List, [], ◌∷◌, length, Option, Some, None, Result, Ok, Err, decimal}
use Rattle.std.specs.Borrow.{Bor}
use Rattle.refute_check.specs.Proofs.{proof_of, size}
use Rattle.proof_text.specs.declared.fault.ProofAnswer.{ProofAnswer}
use Rattle.proof_text.specs.declared.fault.ProofAnswer.TheVariants.{Refused, NoMemory}
use Rattle.proof_text.specs.declared.limits.Limits.{Limits}
use Rattle.proof_text.specs.declared.limits.TheConstants.{MOST_NUMBER}
use Rattle.proof_text.specs.declared.read.ReadProof.{ReadProof}
use Rattle.proof_text.specs.Faults.{fault_after, proof_fault, skipped_count}
use Rattle.proof_text.specs.Laws.{IsSmall}
use Rattle.proof_text.specs.LineForms.{bytes_after, lines_of}
use Rattle.proof_text.specs.Spelling.{IsCertificateOf, certificate_text, node_line_numbers}

-- the file has no fault, it is the certificate of the refutation, whose numbers are small, and these are the lines of the
-- refutation's nodes
pub record IsReadFrom (limits : Limits) (bytes : List ℕ) (read : ReadProof) : Type 0 where
  pub faultless : proof_fault limits bytes ≡ None
  pub spelled : IsCertificateOf limits.version bytes (proof_of read.refutation.value)
  pub small : IsSmall limits.version (proof_of read.refutation.value)
  pub lines : read.lines ≡ node_line_numbers (skipped_count (lines_of bytes) + 2) (proof_of read.refutation.value)

-- the refutation of a file, or its first fault, besides want of memory
abbrev pub IsProofRead : Limits → List ℕ → Result ReadProof ProofAnswer → Type 0
IsProofRead limits bytes (Ok read) = IsReadFrom limits bytes read
IsProofRead limits bytes (Err (Refused fault)) = proof_fault limits bytes ≡ Some fault
IsProofRead limits bytes (Err NoMemory) = ⊤

-- behind so many lines the file has no fault, what stands there is the text of the refutation, whose numbers are small, and these are
-- the lines of the refutation's nodes, counted from the file's first
pub record IsReadBehind (limits : Limits) (front : ℕ) (bytes : List ℕ) (read : ReadProof) : Type 0 where
  pub faultless : fault_after limits front bytes ≡ None
  pub spelled : bytes_after front bytes ≡ certificate_text limits.version (proof_of read.refutation.value)
  pub small : IsSmall limits.version (proof_of read.refutation.value)
  pub lines : read.lines ≡ node_line_numbers (front + 2) (proof_of read.refutation.value)

-- the refutation that stands behind so many lines, or the first fault there, besides want of memory
abbrev pub IsProofReadBehind : Limits → ℕ → List ℕ → Result ReadProof ProofAnswer → Type 0
IsProofReadBehind limits front bytes (Ok read) = IsReadBehind limits front bytes read
IsProofReadBehind limits front bytes (Err (Refused fault)) = fault_after limits front bytes ≡ Some fault
IsProofReadBehind limits front bytes (Err NoMemory) = ⊤

-- a node for each line that begins one, and so at most as many nodes as bytes
abbrev pub HasFewNodes : List ℕ → ReadProof → Type 0
HasFewNodes bytes read =
    (length read.lines ≡ size (proof_of read.refutation.value)) × (size (proof_of read.refutation.value) ≤ length bytes)

-- ---- parts of other lines

-- the first line of a file, with its end, and what stands behind; none only where the file is empty
abbrev pub IsFirstLine : List ℕ → Option (Bor (List ℕ) × Bor (List ℕ)) → Type 0
IsFirstLine bytes None = lines_of bytes ≡ []
IsFirstLine bytes (Some r) = lines_of bytes ≡ r.0.now ∷ lines_of r.1.now

-- the text is the decimal of no number up to the greatest
abbrev pub IsNoDecimal : List ℕ → Type 0
IsNoDecimal text = (n : ℕ) → n ≤ MOST_NUMBER → text ≢ decimal n
