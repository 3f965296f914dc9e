use Rattle.std.proofs.Common.{◌∙◌, ◌+◌, subst, sym, take}
use Rattle.formula_nodes.specs.Standing.{node_trees}
use Rattle.test_relations.specs.Relations.{SchemaTests}
use Rattle.query_reduction.specs.Claims.{SayAsMuch}
use Rattle.query_reduction.proofs.Replacing.{kept-step, said-of-all, say-without}
use Rattle.query_reduction.proofs.implies.Implications.unimplied.Goals as goal

pub claims-preserved-then-is_implied : goal.claims-preserved-then-is_implied
claims-preserved-then-is_implied c =
    let trees = node_trees c.args.nodes.now in
    let said = say-without c.claims.self.relations trees c.args.parts.now c.args.index c.args.claims.now c.claims.claim-index _ c.claims.left c.claims-test.true c.claims.invariant.2 (c.is_implied.ensures.implied c.if-is_implied.true) in (
      c.is_implied.ensures.same ∙ c.claims.invariant.0,
      c.claims.invariant.1,
      subst (λ (of : SchemaTests). SayAsMuch of trees c.args.parts.now c.args.index (take (c.claims.claim-index + 1) c.args.claims.now) c.claims.left) (sym c.is_implied.ensures.same) said,
    )

pub claims-preserved : goal.claims-preserved
claims-preserved c =
    let trees = node_trees c.args.nodes.now in
    let both = kept-step c.claims.self.relations trees c.args.parts.now c.args.index c.args.claims.now c.claims.claim-index _ c.claims.left c.claims-test.true c.claims.invariant.2 c.push.new.self c.in_ok-push.ensures.ok c.requires c.claims.invariant.1 in (
      c.is_implied.ensures.same ∙ c.claims.invariant.0,
      both.0,
      subst (λ (of : SchemaTests). SayAsMuch of trees c.args.parts.now c.args.index (take (c.claims.claim-index + 1) c.args.claims.now) c.push.new.self) (sym c.is_implied.ensures.same) both.1,
    )

pub returns-clause-say : goal.returns-clause-say
returns-clause-say c =
    said-of-all c.claims.self.relations c.args.self.now.relations (node_trees c.args.nodes.now) c.args.parts.now c.args.index c.args.claims.now c.claims.left c.claims.claim-index c.claims-test.false c.claims.invariant.0 c.claims.invariant.2
