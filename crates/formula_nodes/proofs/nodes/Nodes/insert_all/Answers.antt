use Rattle.std.proofs.Common.{ℕ, ◌<◌, All, subst}
use Rattle.formula_nodes.specs.declared.claim.Claim.{Claim}
use Rattle.formula_nodes.specs.declared.nodes.Node.TheVariants as node
use Rattle.formula_nodes.proofs.Adding.{adds-none, all-claim, grows-with}
use Rattle.formula_nodes.proofs.Standing.{length-trees}
use Rattle.formula_nodes.proofs.nodes.Nodes.insert_all.Goals as goal

pub insert-requires : goal.insert-requires
insert-requires c = subst (λ (n : ℕ). All (λ (d : Claim). d.node < n) c.args.claims) (length-trees c.args.self.now) c.requires

pub returns-clause-grows : goal.returns-clause-grows
returns-clause-grows c = grows-with c.args.self.now c.insert.new.self (node.All c.args.claims) c.insert.ensures.with

pub returns-clause-tests : goal.returns-clause-tests
returns-clause-tests c = adds-none c.args.self.now c.insert.new.self c.args.claims c.insert.ensures.with c.requires

pub returns-clause-each : goal.returns-clause-each
returns-clause-each c = all-claim c.insert.result c.insert.new.self c.args.claims c.insert.ensures.at
