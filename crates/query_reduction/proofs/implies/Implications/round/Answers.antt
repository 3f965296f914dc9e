use Rattle.std.proofs.Common.{◌∙◌, refl, subst, sym, arith}
use Rattle.formula_nodes.specs.Claims.{AreClaimsOf}
use Rattle.formula_nodes.specs.Standing.{node_trees}
use Rattle.test_relations.specs.Relations.{SchemaTests}
use Rattle.query_reduction.specs.Claims.{IsConjunctionFor}
use Rattle.query_reduction.proofs.Replacing.{replaced-step, whole-last}
use Rattle.formula_nodes.proofs.Laws.{grows-none, grows-then}
use Rattle.query_reduction.proofs.implies.Implications.round.Goals as goal

pub each-init : goal.each-init
each-init c =
    let trees = node_trees c.args.nodes.now in
    let whole = c.in-Some.ensures.same c.args.self.now.relations in (
      refl,
      grows-none trees,
      λ t below. below,
      refl,
      subst (AreClaimsOf trees) (sym c.in_ok-parts.ensures) c.in-Some.ensures.there,
      subst (IsConjunctionFor c.args.self.now.relations trees c.args.whole) (sym c.in_ok-parts.ensures) whole,
    )

pub each-preserved : goal.each-preserved
each-preserved c =
    let old = node_trees c.each.nodes in
    let new = node_trees c.replacement.new.nodes in
    let may = rw c.as_slice-in-each.ensures.value at c.in_ok-claim.ensures.may in
    let next = replaced-step c.each.self.relations old new c.args.whole c.each.parts.items _ c.in_ok-claim.claim (omega arith) c.in_ok-claim.ensures.grows c.each.invariant.5 may c.put.new.claims.items c.put.ensures c.each.invariant.4 in (
      c.in_ok-claim.ensures.same ∙ c.each.invariant.0,
      grows-then (node_trees c.args.nodes.now) old new c.each.invariant.1 c.in_ok-claim.ensures.grows,
      λ t below. c.in_ok-claim.ensures.asks t (c.each.invariant.2 t below),
      next.0 ∙ c.each.invariant.3,
      next.1,
      subst (λ (of : SchemaTests). IsConjunctionFor of new c.args.whole c.put.new.claims.items) (sym c.in_ok-claim.ensures.same) next.2,
    )

pub conjunction-requires : goal.conjunction-requires
conjunction-requires c = subst (AreClaimsOf (node_trees c.each.nodes)) (sym c.from_vec.ensures) c.each.invariant.4

pub returns-in_err-claim-clause-grows : goal.returns-in_err-claim-clause-grows
returns-in_err-claim-clause-grows c = grows-then _ _ _ c.each.invariant.1 c.in_err-claim.ensures.grows

pub returns-in_err-claim-clause-asks : goal.returns-in_err-claim-clause-asks
returns-in_err-claim-clause-asks c = λ t below. c.in_err-claim.ensures.asks t (c.each.invariant.2 t below)

pub returns-clause-grows : goal.returns-clause-grows
returns-clause-grows c = grows-then _ _ _ c.each.invariant.1 c.conjunction.ensures.grows

pub returns-clause-asks : goal.returns-clause-asks
returns-clause-asks c = λ t below. c.conjunction.ensures.asks t (c.each.invariant.2 t below)

pub returns-clause-value : goal.returns-clause-value
returns-clause-value c =
    whole-last c.each.self.relations c.args.self.now.relations (node_trees c.each.nodes) (node_trees c.conjunction.new.nodes) c.args.whole c.conjunction.result c.each.parts.items c.from_vec.result
    c.each.invariant.0 c.from_vec.ensures c.conjunction.ensures.grows c.each.invariant.5 c.conjunction.ensures.same
