use Rattle.proof_text.specs.LineForms.{lines_before}
use Rattle.proof_text.proofs.Fronts.{behind-nodes, behind-read}
use Rattle.proof_text.proofs.read.read_proof_from.Goals as goal

pub returns-clause-read : goal.returns-clause-read
returns-clause-read c =
    let front = lines_before c.args.line c.args.bytes.now in
    behind-read (record { tests = c.args.tests; version = c.args.version }) front c.args.bytes.now c.location_of_line.result c.read_at.result c.location_of_line.ensures c.read_at.ensures.read

pub returns-clause-nodes : goal.returns-clause-nodes
returns-clause-nodes c =
    let front = lines_before c.args.line c.args.bytes.now in
    behind-nodes front c.args.bytes.now c.location_of_line.result c.read_at.result c.location_of_line.ensures c.read_at.ensures.nodes
