use Rattle.std.proofs.Common.{◌∙◌, refl, subst, sym}
use Rattle.formula_nodes.specs.Standing.{node_trees}
use Rattle.test_relations.specs.Relations.{SchemaTests}
use Rattle.query_reduction.specs.Claims.{IsSameClaim}
use Rattle.query_reduction.proofs.Replacing.{same-then}
use Rattle.formula_nodes.proofs.Laws.{grows-none, grows-then}
use Rattle.query_reduction.proofs.implies.Implications.settled.Goals as goal

pub rounds-init : goal.rounds-init
rounds-init c = (refl, grows-none (node_trees c.args.nodes.now), λ t below. below, c.requires, λ true_of for. refl)

pub rounds-preserved : goal.rounds-preserved
rounds-preserved c =
    let old = node_trees c.rounds.nodes in
    let new = node_trees c.round.new.nodes in
    let same = same-then c.rounds.self.relations old new c.args.whole c.rounds.last c.in_ok-next.next c.in_ok-next.ensures.grows c.rounds.invariant.4 c.in_ok-next.ensures.value in (
      c.in_ok-next.ensures.same ∙ c.rounds.invariant.0,
      grows-then _ _ _ c.rounds.invariant.1 c.in_ok-next.ensures.grows,
      λ t below. c.in_ok-next.ensures.asks t (c.rounds.invariant.2 t below),
      c.in_ok-next.ensures.there,
      subst (λ (of : SchemaTests). IsSameClaim of new c.args.whole c.in_ok-next.next) (sym c.in_ok-next.ensures.same) same,
    )

pub round-requires : goal.round-requires
round-requires c = c.rounds.invariant.3

pub returns-in_err-next-clause-grows : goal.returns-in_err-next-clause-grows
returns-in_err-next-clause-grows c = grows-then _ _ _ c.rounds.invariant.1 c.in_err-next.ensures.grows

pub returns-in_err-next-clause-asks : goal.returns-in_err-next-clause-asks
returns-in_err-next-clause-asks c = λ t below. c.in_err-next.ensures.asks t (c.rounds.invariant.2 t below)

pub returns-then-is_settled-clause-same : goal.returns-then-is_settled-clause-same
returns-then-is_settled-clause-same c = c.in_ok-next.ensures.same ∙ c.rounds.invariant.0

pub returns-then-is_settled-clause-grows : goal.returns-then-is_settled-clause-grows
returns-then-is_settled-clause-grows c = grows-then _ _ _ c.rounds.invariant.1 c.in_ok-next.ensures.grows

pub returns-then-is_settled-clause-asks : goal.returns-then-is_settled-clause-asks
returns-then-is_settled-clause-asks c = λ t below. c.in_ok-next.ensures.asks t (c.rounds.invariant.2 t below)

pub returns-then-is_settled-clause-value : goal.returns-then-is_settled-clause-value
returns-then-is_settled-clause-value c =
    let same = same-then c.rounds.self.relations (node_trees c.rounds.nodes) (node_trees c.round.new.nodes) c.args.whole c.rounds.last c.in_ok-next.next c.in_ok-next.ensures.grows c.rounds.invariant.4 c.in_ok-next.ensures.value in
    subst (λ (of : SchemaTests). IsSameClaim of (node_trees c.round.new.nodes) c.args.whole c.in_ok-next.next) c.rounds.invariant.0 same

pub returns-clause-value : goal.returns-clause-value
returns-clause-value c = subst (λ (of : SchemaTests). IsSameClaim of (node_trees c.rounds.nodes) c.args.whole c.rounds.last) c.rounds.invariant.0 c.rounds.invariant.4
