use Rattle.std.proofs.Common.{false, subst, sym}
use Rattle.formula_nodes.specs.Claims.{AreClaimsOf}
use Rattle.formula_nodes.specs.Standing.{node_trees}
use Rattle.formula_nodes.specs.Steps.{AreEquivalentClaims}
use Rattle.formula_nodes.proofs.Joining.{all-says, one-says, told}
use Rattle.formula_nodes.proofs.nodes.Nodes.all.Goals as goal

pub returns-then-sorted-eq1-clause-each : goal.returns-then-sorted-eq1-clause-each
returns-then-sorted-eq1-clause-each c =
    let says = told c.as_slice.result.now c.self.inside.nodes.keys c.args.self.now c.as_slice-2.result.now c.args.claims c.in_ok-flat.flat.items c.sort_out.new.claims.items c.as_slice.ensures.keys c.self.view_is c.as_slice-2.ensures c.in_ok-flat.ensures c.sort_out.ensures in
    one-says (node_trees c.args.self.now) c.args.claims c.as_slice-sorted.result.now (record { node = 0; holds = false }) (subst (AreEquivalentClaims (node_trees c.args.self.now) c.args.claims) (sym c.as_slice-sorted.ensures.value) says)
    c.if-sorted-eq1.true

pub insert_all-requires : goal.insert_all-requires
insert_all-requires c =
    let says = told c.as_slice.result.now c.self.inside.nodes.keys c.args.self.now c.as_slice-2.result.now c.args.claims c.in_ok-flat.flat.items c.sort_out.new.claims.items c.as_slice.ensures.keys c.self.view_is c.as_slice-2.ensures c.in_ok-flat.ensures c.sort_out.ensures in
    subst (AreClaimsOf (node_trees c.args.self.now)) (sym c.from_vec.ensures) says.0

pub returns-clause-each : goal.returns-clause-each
returns-clause-each c =
    let says = told c.as_slice.result.now c.self.inside.nodes.keys c.args.self.now c.as_slice-2.result.now c.args.claims c.in_ok-flat.flat.items c.sort_out.new.claims.items c.as_slice.ensures.keys c.self.view_is c.as_slice-2.ensures c.in_ok-flat.ensures c.sort_out.ensures in
    all-says c.insert_all.result (node_trees c.args.self.now) (node_trees c.insert_all.new.self) c.args.claims c.from_vec.result c.insert_all.ensures.grows c.requires
    (subst (AreEquivalentClaims (node_trees c.args.self.now) c.args.claims) (sym c.from_vec.ensures) says) c.insert_all.ensures.each
