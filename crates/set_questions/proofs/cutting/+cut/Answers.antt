use Rattle.std.proofs.Common.{IfSome, List, Option, subst}
use Rattle.formula_nodes.specs.Standing.{node_trees}
use Rattle.formula_nodes.specs.declared.claim.Claim.{Claim}
use Rattle.formula_nodes.proofs.Laws.{grows-then}
use Rattle.set_questions.specs.Cutting.{AreLeftOf, IsConjunctionAt}
use Rattle.set_questions.proofs.Cut.{cut-left, left-all, left-more, left-same}
use Rattle.set_questions.proofs.cutting.+cut.Goals as goal

pub cut-returns-clause-left : goal.cut-returns-clause-left
cut-returns-clause-left t c =
    let old = node_trees c.args.nodes.now in
    let mid = node_trees c.left_of.new.nodes in
    let inner = c.in-Some.inner in
    let left = c.in_ok-left.left in
    let is = subst (λ (o : Option (List Claim)). IfSome o (IsConjunctionAt old c.args.claim.node)) c.in-Some.is c.in_ok-inner.ensures in
    let are : AreLeftOf mid c.args.denied.now inner left = subst (λ (cs : List Claim). AreLeftOf mid c.args.denied.now cs left) c.as_slice.ensures c.in_ok-left.ensures.left in
    cut-left old mid (node_trees c.all.new.self) c.args.denied.now c.args.claim c.in_ok-all.all c.turned.result inner left c.left_of.ensures.grows c.all.ensures.grows c.requires.count c.requires.there is are c.in_ok-all.ensures.each c.turned.ensures

pub left_of-claims-preserved-then-is_known : goal.left_of-claims-preserved-then-is_known
left_of-claims-preserved-then-is_known t c = (
  c.claims.invariant.0,
  c.claims.invariant.1,
  left-same (node_trees c.claims.nodes) c.args.denied.now c.args.claims.now c.claims.claim-index _ c.claims.left c.claims-test.true c.claims.invariant.2 (c.is_known.ensures c.if-is_known.true),
)

pub left_of-claims-preserved : goal.left_of-claims-preserved
left_of-claims-preserved t c =
    let first = node_trees c.args.nodes.now in
    let old = node_trees c.claims.nodes in
    let new = node_trees c.cut.new.nodes in (
      grows-then first old new c.claims.invariant.0 c.cut.ensures.grows,
      λ n below. c.cut.ensures.tests n (c.claims.invariant.1 n below),
      left-more first old new c.args.denied.now c.args.claims.now c.claims.left c.push.new.self c.claims.claim-index _ c.in_ok-cut.field-0 c.claims.invariant.0 c.cut.ensures.grows c.requires.count c.requires.there c.claims-test.true
          c.claims.invariant.2 c.in_ok-cut.ensures.left c.in_ok-push.ensures.ok,
    )

pub left_of-returns-clause-left : goal.left_of-returns-clause-left
left_of-returns-clause-left t c = left-all (node_trees c.claims.nodes) c.args.denied.now c.args.claims.now c.claims.left c.claims.claim-index c.claims-test.false c.claims.invariant.2
