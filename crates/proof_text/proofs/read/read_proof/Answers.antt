use Rattle.proof_text.proofs.Fronts.{first-nodes, first-read}
use Rattle.proof_text.proofs.read.read_proof.Goals as goal

pub returns-clause-read : goal.returns-clause-read
returns-clause-read c =
    first-read (record { tests = c.args.tests; version = c.args.version }) c.args.bytes.now c.first_location.result c.read_at.result c.first_location.ensures c.read_at.ensures.read

pub returns-clause-nodes : goal.returns-clause-nodes
returns-clause-nodes c = first-nodes c.args.bytes.now c.first_location.result c.read_at.result c.first_location.ensures c.read_at.ensures.nodes
