-- What refutations, their texts and the faults of texts say of one another.
use Rattle.std.specs.Prelude.{◌≡◌, ◌≤◌, ◌==◌, ⊤, ℕ, List, [], ◌++◌, length, false, None, All}
use Rattle.formula_tree.specs.Trees.{Tree}
use Rattle.policy_model.specs.declared.schema.Schema.{Schema}
use Rattle.policy_model.specs.declared.test.Test.{Test}
use Rattle.refute_check.specs.Closing.{Closes, at_first}
use Rattle.refute_check.specs.Proofs.{Proof, by_clauses, by_slot, by_value, depth, label, reuse, split}
use Rattle.slot_theory.specs.declared.outcome.KindProof.{KindProof}
use Rattle.slot_theory.specs.declared.outcome.KindProof.TheVariants.{Never, Closed}
use Rattle.slot_theory.specs.declared.outcome.SlotProof.{SlotProof}
use Rattle.slot_theory.specs.declared.outcome.SlotProof.TheVariants.{Points, Absent, Required, Word, Kinds, Member, SomeMember}
use Rattle.proof_text.specs.declared.limits.Limits.{Limits}
use Rattle.proof_text.specs.declared.limits.TheConstants.{MOST_NESTING, MOST_NUMBER, MOST_PROOF_BYTES}
use Rattle.proof_text.specs.Faults.{fault_after, numbers_in, proof_fault}
use Rattle.proof_text.specs.LineForms.{ended_lines}
use Rattle.proof_text.specs.Lines.{Line}
use Rattle.proof_text.specs.Spelling.{IsCertificateOf, proof_lines, certificate_text}

-- no number is above the greatest that a certificate may have
abbrev pub AreSmall : List ℕ → Type 0
AreSmall numbers = All (λ n. n ≤ MOST_NUMBER) numbers

-- nor any of the line
abbrev pub HasSmallNumbers : Line → Type 0
HasSmallNumbers l = AreSmall (numbers_in l)

-- nor any place of these lists, nor of these product states
abbrev pub AreListsSmall : List (List ℕ) → Type 0
AreListsSmall lists = All AreSmall lists

abbrev pub ArePlacesSmall : List (List (List ℕ)) → Type 0
ArePlacesSmall set = All AreListsSmall set

-- nor any place in a proof for a kind of principals, or for a slot
abbrev pub IsKindSmall : KindProof → Type 0
IsKindSmall Never = ⊤
IsKindSmall (Closed set) = ArePlacesSmall set

abbrev pub IsSlotSmall : SlotProof → Type 0
IsSlotSmall Points = ⊤
IsSlotSmall Absent = ⊤
IsSlotSmall Required = ⊤
IsSlotSmall (Word set) = ArePlacesSmall set
IsSlotSmall (Kinds aws service federated canonical_user) =
    IsKindSmall aws × IsKindSmall service × IsKindSmall federated × IsKindSmall canonical_user
IsSlotSmall (Member n set) = ArePlacesSmall set
IsSlotSmall (SomeMember set) = ArePlacesSmall set

-- the places, the hints and the numbers of labels in a refutation are those that the program can hold. The numbers of tests aren't
-- asked for: closing bounds them
abbrev pub HoldsSmallNumbers : Proof → Type 0
HoldsSmallNumbers (split n y z) = HoldsSmallNumbers y × HoldsSmallNumbers z
HoldsSmallNumbers by_value = ⊤
HoldsSmallNumbers (by_slot core proof) = IsSlotSmall proof
HoldsSmallNumbers (by_clauses hints) = AreSmall hints
HoldsSmallNumbers (label n answers p) = (n ≤ MOST_NUMBER) × HoldsSmallNumbers p
HoldsSmallNumbers (reuse n) = n ≤ MOST_NUMBER

-- what the certificate of a query with these tests is read for
abbrev pub limits_of : List Test → ℕ → Limits
limits_of tests version = record { tests = length tests; version = version }

-- the text of a refutation that closes a query, that nests few enough splits and labels and that the program can hold has no fault, with
-- the answer of a comparison before it or without, as long as it has at most as many bytes as a certificate may have
abbrev pub ClosingProofsHaveNoFault : Type 0
ClosingProofsHaveNoFault =
    (schema : Schema) (tests : List Test) (tree : Tree) (version : ℕ) (proof : Proof) (bytes : List ℕ) →
    Closes schema tests tree at_first proof [] → depth proof ≤ MOST_NESTING → HoldsSmallNumbers proof →
    length tests ≤ MOST_NUMBER → version ≤ MOST_NUMBER →
    IsCertificateOf version bytes proof → length bytes ≤ MOST_PROOF_BYTES → proof_fault (limits_of tests version) bytes ≡ None

-- no line feed stands in it
abbrev pub IsUnbroken : List ℕ → Type 0
IsUnbroken content = All (λ b. (b == 10) ≡ false) content

-- nor has it one where any lines stand before it, of as many as there are lines
abbrev pub ClosingProofsHaveNoFaultBehind : Type 0
ClosingProofsHaveNoFaultBehind =
    (schema : Schema) (tests : List Test) (tree : Tree) (version : ℕ) (proof : Proof) (contents : List (List ℕ)) →
    Closes schema tests tree at_first proof [] → depth proof ≤ MOST_NESTING → HoldsSmallNumbers proof →
    length tests ≤ MOST_NUMBER → version ≤ MOST_NUMBER →
    All IsUnbroken contents → length (ended_lines contents ++ certificate_text version proof) ≤ MOST_PROOF_BYTES →
    fault_after (limits_of tests version) (length contents) (ended_lines contents ++ certificate_text version proof) ≡ None

-- no number of any line of the certificate is above the greatest
abbrev pub IsSmall : ℕ → Proof → Type 0
IsSmall version p = All HasSmallNumbers (proof_lines version p)

-- nor is any of the text of a refutation that closes a query and that the program can hold
abbrev pub ClosingProofsAreSmall : Type 0
ClosingProofsAreSmall =
    (schema : Schema) (tests : List Test) (tree : Tree) (version : ℕ) (proof : Proof) (bytes : List ℕ) →
    Closes schema tests tree at_first proof [] → HoldsSmallNumbers proof → length tests ≤ MOST_NUMBER → version ≤ MOST_NUMBER →
    IsCertificateOf version bytes proof → length bytes ≤ MOST_PROOF_BYTES → IsSmall version proof

-- a text is the certificate of one refutation at most
abbrev pub OneProofForEachText : Type 0
OneProofForEachText =
    (version : ℕ) (bytes : List ℕ) (p q : Proof) → IsSmall version p → IsSmall version q →
    IsCertificateOf version bytes p → IsCertificateOf version bytes q → p ≡ q
