use Rattle.formula_nodes.specs.Standing.{node_trees}
use Rattle.query_reduction.proofs.Replacing.{implied-replaced, replaced-narrower}
use Rattle.query_reduction.proofs.implies.Implications.replacement.Goals as goal

pub returns-then-is_needless-clause-may : goal.returns-then-is_needless-clause-may
returns-then-is_needless-clause-may c =
    implied-replaced c.args.self.now.relations (node_trees c.args.nodes.now) (node_trees c.conjunction.new.nodes) c.args.parts.now c.args.index _ c.requires.within
    c.conjunction.ensures.grows c.conjunction.result c.new.result c.new.ensures c.conjunction.ensures.there (c.is_needless.ensures.implied c.if-is_needless.true) c.conjunction.ensures.same

pub returns-clause-may : goal.returns-clause-may
returns-clause-may c =
    let said = rw c.is_needless.ensures.same at c.in_ok-left.ensures.say in
    replaced-narrower c.args.self.now.relations (node_trees c.args.nodes.now) (node_trees c.conjunction-2.new.nodes) c.args.parts.now c.args.index _ c.requires.within
    c.in_ok-both.ensures.grows c.opposite.result c.in_ok-both.both c.opposite-2.result c.in-Some.opposites.now c.in_ok-left.left
    c.opposite.ensures.node c.opposite.ensures.holds c.opposite-2.ensures.node c.opposite-2.ensures.holds c.in-Some.ensures.same said c.in_ok-both.ensures.there c.in_ok-both.ensures.same
