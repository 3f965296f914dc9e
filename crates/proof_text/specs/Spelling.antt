-- The text of a refutation. A node's line stands first, then what its proof needs, the yes node and the no node of a split, or the node
-- of a label.
use Rattle.std.specs.Prelude.{◌≡◌, ◌⊎◌, ℕ, ◌+◌, List, [], ◌∷◌, ◌++◌, map, length}
use Rattle.std.specs.List.{flat_map}
use Rattle.refute_check.specs.Proofs.{Proof, by_clauses, by_slot, by_value, label, reuse, split}
use Rattle.slot_theory.specs.declared.outcome.KindProof.{KindProof}
use Rattle.slot_theory.specs.declared.outcome.KindProof.TheVariants.{Never, Closed}
use Rattle.slot_theory.specs.declared.outcome.SlotProof.{SlotProof}
use Rattle.slot_theory.specs.declared.outcome.SlotProof.TheVariants.{Points, Absent, Required, Word, Kinds, Member, SomeMember}
use Rattle.proof_text.specs.Lines.{Line, line_text, verdict_line, certificate_line, split_line, value_line, slot_line}
use Rattle.proof_text.specs.Lines.{clauses_line, label_line, reuse_line, points_line, absent_line, required_line, closed_line}
use Rattle.proof_text.specs.Lines.{kinds_line, never_line, member_line, some_line, places_line}

-- a closed set: how many product states it lists, and each of them
abbrev pub closed_lines : List (List (List ℕ)) → List Line
closed_lines set = closed_line (length set) ∷ map places_line set

-- the proof for one kind of principals
abbrev pub kind_lines : KindProof → List Line
kind_lines Never = never_line ∷ []
kind_lines (Closed set) = closed_lines set

-- the proof for a slot
abbrev pub slot_lines : SlotProof → List Line
slot_lines Points = points_line ∷ []
slot_lines Absent = absent_line ∷ []
slot_lines Required = required_line ∷ []
slot_lines (Word set) = closed_lines set
slot_lines (Kinds aws service federated canonical_user) =
    kinds_line ∷ (kind_lines aws ++ (kind_lines service ++ (kind_lines federated ++ kind_lines canonical_user)))
slot_lines (Member n set) = member_line n ∷ closed_lines set
slot_lines (SomeMember set) = some_line ∷ closed_lines set

-- a node with all that is below it
abbrev pub node_lines : Proof → List Line
node_lines (split n y z) = split_line n ∷ (node_lines y ++ node_lines z)
node_lines by_value = value_line ∷ []
node_lines (by_slot core proof) = slot_line core ∷ slot_lines proof
node_lines (by_clauses hints) = clauses_line hints ∷ []
node_lines (label n answers p) = label_line n answers ∷ node_lines p
node_lines (reuse n) = reuse_line n ∷ []

-- the certificate of a refutation, in a format of this number
abbrev pub proof_lines : ℕ → Proof → List Line
proof_lines version p = certificate_line version ∷ node_lines p

abbrev pub certificate_text : ℕ → Proof → List ℕ
certificate_text version p = flat_map line_text (proof_lines version p)

-- the file is the certificate of the refutation; the answer of a comparison may stand before it
abbrev pub IsCertificateOf : ℕ → List ℕ → Proof → Type 0
IsCertificateOf version bytes p = (bytes ≡ certificate_text version p) ⊎ (bytes ≡ verdict_line ++ certificate_text version p)

-- the line of each node in reading order, where the first has this number
abbrev pub node_line_numbers : ℕ → Proof → List ℕ
node_line_numbers n (split t y z) = n ∷ (node_line_numbers (n + 1) y ++ node_line_numbers (n + 1 + length (node_lines y)) z)
node_line_numbers n by_value = n ∷ []
node_line_numbers n (by_slot core proof) = n ∷ []
node_line_numbers n (by_clauses hints) = n ∷ []
node_line_numbers n (label k answers p) = n ∷ node_line_numbers (n + 1) p
node_line_numbers n (reuse k) = n ∷ []
