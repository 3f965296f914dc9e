use Rattle.formula_nodes.specs.Standing.{node_trees}
use Rattle.formula_nodes.proofs.Joining.{also-each}
use Rattle.formula_nodes.proofs.conjunction.add_claim.Goals as goal

pub returns-in-All : goal.returns-in-All
returns-in-All c = also-each (node_trees c.args.nodes.now) c.args.claim c.in-All.inner c.args.flat.now.items c.extend_from_slice.new.self.items c.in-All.ensures c.in_ok-extend_from_slice.ensures.items
