use Rattle.std.proofs.Common.{refl, Ok}
use Rattle.proof_text.specs.LineForms.{ExpectSlotProof}
use Rattle.proof_text.specs.Lines.{absent_line, member_line, points_line, required_line, some_line}
use Rattle.proof_text.specs.Spelling.{closed_lines}
use Rattle.proof_text.proofs.Taking.{closed-read, kinds-read, leads-alone, leads-line}
use Rattle.proof_text.proofs.slots.read_slot_proof.Goals as goal

pub returns-in-Ok-Points : goal.returns-in-Ok-Points
returns-in-Ok-Points c =
    let known = rw c.in-Ok-Points.field-0-is at c.in-Ok-Points.ensures in
    leads-alone c.args.limits ExpectSlotProof c.args.location c.in_ok-line.behind c.in_ok-line.line.now points_line c.in_ok-line.ensures known.0 known.1 refl

pub returns-in-Ok-Absent : goal.returns-in-Ok-Absent
returns-in-Ok-Absent c =
    let known = rw c.in-Ok-Absent.field-0-is at c.in-Ok-Absent.ensures in
    leads-alone c.args.limits ExpectSlotProof c.args.location c.in_ok-line.behind c.in_ok-line.line.now absent_line c.in_ok-line.ensures known.0 known.1 refl

pub returns-in-Ok-Required : goal.returns-in-Ok-Required
returns-in-Ok-Required c =
    let known = rw c.in-Ok-Required.field-0-is at c.in-Ok-Required.ensures in
    leads-alone c.args.limits ExpectSlotProof c.args.location c.in_ok-line.behind c.in_ok-line.line.now required_line c.in_ok-line.ensures known.0 known.1 refl

pub returns-in_ok-closed-in-Ok-Closed : goal.returns-in_ok-closed-in-Ok-Closed
returns-in_ok-closed-in-Ok-Closed c =
    let known = rw c.in-Ok-Closed.field-0-is at c.in-Ok-Closed.ensures in
    closed-read c.args.limits ExpectSlotProof c.args.location c.in_ok-line.behind c.in_ok-line.line.now c.in-Ok-Closed.count (Ok (c.in_ok-closed-in-Ok-Closed.closed, c.in_ok-closed-in-Ok-Closed.end)) c.in_ok-line.ensures known.0 known.1
    c.in_ok-closed-in-Ok-Closed.ensures.states c.in_ok-closed-in-Ok-Closed.ensures.count

pub returns-in-Ok-Kinds : goal.returns-in-Ok-Kinds
returns-in-Ok-Kinds c =
    let known = rw c.in-Ok-Kinds.field-0-is at c.in-Ok-Kinds.ensures in
    kinds-read c.args.limits c.args.location c.in_ok-line.behind c.in_ok-line.line.now c.read_kinds.result c.in_ok-line.ensures known.0 known.1 c.read_kinds.ensures.kinds c.read_kinds.ensures.whole

pub returns-in_ok-closed-in-Ok-Member : goal.returns-in_ok-closed-in-Ok-Member
returns-in_ok-closed-in-Ok-Member c =
    let known = rw c.in-Ok-Member.field-0-is at c.in-Ok-Member.ensures in
    leads-line c.args.limits ExpectSlotProof c.args.location c.in_ok-line.behind c.in_ok-closed-in-Ok-Member.end c.in_ok-line.line.now (member_line c.in-Ok-Member.test) (closed_lines c.in_ok-closed-in-Ok-Member.closed) c.in_ok-line.ensures known.0 known.1 c.in_ok-closed-in-Ok-Member.ensures

pub returns-in_ok-closed-in-Ok-OneMember : goal.returns-in_ok-closed-in-Ok-OneMember
returns-in_ok-closed-in-Ok-OneMember c =
    let known = rw c.in-Ok-OneMember.field-0-is at c.in-Ok-OneMember.ensures in
    leads-line c.args.limits ExpectSlotProof c.args.location c.in_ok-line.behind c.in_ok-closed-in-Ok-OneMember.end c.in_ok-line.line.now some_line (closed_lines c.in_ok-closed-in-Ok-OneMember.closed) c.in_ok-line.ensures known.0 known.1 c.in_ok-closed-in-Ok-OneMember.ensures
