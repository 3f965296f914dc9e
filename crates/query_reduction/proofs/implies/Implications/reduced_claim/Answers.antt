use Rattle.std.proofs.Common.{◌∙◌}
use Rattle.formula_nodes.specs.Standing.{node_trees}
use Rattle.query_reduction.proofs.Replacing.{same-then}
use Rattle.formula_nodes.proofs.Laws.{grows-then}
use Rattle.query_reduction.proofs.implies.Implications.reduced_claim.Goals as goal

pub returns-in_err-least-clause-same : goal.returns-in_err-least-clause-same
returns-in_err-least-clause-same c = c.in_err-least.ensures.same ∙ c.in_ok-less.ensures.same

pub returns-in_err-least-clause-grows : goal.returns-in_err-least-clause-grows
returns-in_err-least-clause-grows c = grows-then _ _ _ c.in_ok-less.ensures.grows c.in_err-least.ensures.grows

pub returns-in_err-least-clause-asks : goal.returns-in_err-least-clause-asks
returns-in_err-least-clause-asks c = λ t below. c.in_err-least.ensures.asks t (c.in_ok-less.ensures.asks t below)

pub returns-clause-same : goal.returns-clause-same
returns-clause-same c = c.in_ok-least.ensures.same ∙ c.in_ok-less.ensures.same

pub returns-clause-grows : goal.returns-clause-grows
returns-clause-grows c = grows-then _ _ _ c.in_ok-less.ensures.grows c.in_ok-least.ensures.grows

pub returns-clause-asks : goal.returns-clause-asks
returns-clause-asks c = λ t below. c.in_ok-least.ensures.asks t (c.in_ok-less.ensures.asks t below)

pub returns-clause-value : goal.returns-clause-value
returns-clause-value c =
    same-then c.args.self.now.relations (node_trees c.settled.new.nodes) (node_trees c.settled-2.new.nodes) c.args.whole c.in_ok-less.less c.in_ok-least.least c.in_ok-least.ensures.grows
    c.in_ok-less.ensures.value (rw c.in_ok-less.ensures.same at c.in_ok-least.ensures.value)
