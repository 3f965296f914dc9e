use Rattle.std.proofs.Common.{List, rules, subst}
use Rattle.std.proofs.lemmas.List.{take_all}
use Rattle.formula_nodes.specs.Standing.{node_trees}
use Rattle.formula_nodes.specs.Steps.{AreEquivalentClaims}
use Rattle.formula_nodes.specs.declared.claim.Claim.{Claim}
use Rattle.formula_nodes.proofs.Joining.{says-more}
use Rattle.formula_nodes.proofs.conjunction.flat_claims.Goals as goal

pub loop-claim-preserved : goal.loop-claim-preserved
loop-claim-preserved c =
    says-more (node_trees c.args.nodes.now) c.args.claims.now c.loop-claim.claim-index _ c.loop-claim.flat.items c.add_claim.new.flat.items c.loop-claim-test.true (search rules) c.loop-claim.invariant c.in_ok-add_claim.ensures

pub returns : goal.returns
returns c =
    subst (λ (cs : List Claim). AreEquivalentClaims (node_trees c.args.nodes.now) cs c.loop-claim.flat.items) (take_all c.loop-claim.claim-index c.args.claims.now c.loop-claim-test.false) c.loop-claim.invariant
