-- What the first lines of proofs for slots and for kinds of principals say.
use Rattle.std.specs.Prelude.{◌≡◌, ℕ, List, [], ◌∷◌, ◌++◌}
use Rattle.refute_check.specs.Proofs.{Proof, by_slot}
use Rattle.slot_theory.specs.declared.outcome.SlotProof.{SlotProof}
use Rattle.slot_theory.specs.declared.outcome.SlotProof.TheVariants.{Kinds}
use Rattle.proof_text.specs.Lines.{Line, absent_line, closed_line, kinds_line, member_line, never_line, points_line, required_line, slot_line, some_line}
use Rattle.proof_text.specs.Spelling.{kind_lines, node_lines, slot_lines, node_line_numbers}
use Rattle.proof_text.specs.declared.slots.KindLine.{KindLine}
use Rattle.proof_text.specs.declared.slots.KindLine.TheVariants as Of
use Rattle.proof_text.specs.declared.slots.SlotLine.{SlotLine}
use Rattle.proof_text.specs.declared.slots.SlotLine.TheVariants as For

abbrev pub slot_line_value : SlotLine → Line
slot_line_value For.Points = points_line
slot_line_value For.Absent = absent_line
slot_line_value For.Required = required_line
slot_line_value (For.Closed n) = closed_line n
slot_line_value For.Kinds = kinds_line
slot_line_value (For.Member n) = member_line n
slot_line_value For.OneMember = some_line

abbrev pub kind_line_value : KindLine → Line
kind_line_value Of.Never = never_line
kind_line_value (Of.Closed n) = closed_line n

-- the lines of four kinds, behind their own line
abbrev pub lines_after_kinds : SlotProof → List Line
lines_after_kinds (Kinds aws service federated canonical_user) =
    kind_lines aws ++ (kind_lines service ++ (kind_lines federated ++ kind_lines canonical_user))
lines_after_kinds proof = []

-- the lines of a core's node, behind the first
abbrev pub lines_after : Proof → List Line
lines_after (by_slot core proof) = slot_lines proof
lines_after p = []

-- the node is one of this core
pub record IsOfCore (core : List ℕ) (p : Proof) : Type 0 where
  pub lines : node_lines p ≡ slot_line core ∷ lines_after p
  pub alone : (n : ℕ) → node_line_numbers n p ≡ n ∷ []
