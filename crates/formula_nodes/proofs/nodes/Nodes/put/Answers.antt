use Rattle.std.proofs.Common.{List, subst}
use Rattle.formula_nodes.specs.Standing.{AreOverEarlier}
use Rattle.formula_nodes.specs.Steps.{IsWithNode}
use Rattle.formula_nodes.specs.declared.nodes.Node.{Node}
use Rattle.formula_nodes.proofs.Adding.{over-with, put-at, with-inserted}
use Rattle.formula_nodes.proofs.nodes.Nodes.put.Goals as goal

pub returns-clause-at : goal.returns-clause-at
returns-clause-at c =
    let stored = c.in_ok-index.ensures.stored in
    put-at c.insert_full.new.self.keys c.in_ok-index.index c.args.node stored.0 stored.1 stored.2

pub returns-clause-earlier : goal.returns-clause-earlier
returns-clause-earlier c =
    let stored = c.in_ok-index.ensures.stored in
    let old = c.args.self.now in
    let with = subst (λ (ns : List Node). IsWithNode ns c.insert_full.new.self.keys c.args.node) c.self.view_is (with-inserted _ c.self.inside.nodes.keys c.insert_full.new.self.keys c.args.node c.in_ok-index.ensures.keys) in
    let over = over-with old c.insert_full.new.self.keys c.args.node with (subst AreOverEarlier c.self.view_is c.self.invariant) c.requires in
    over c.in_ok-index.index c.args.node (put-at c.insert_full.new.self.keys c.in_ok-index.index c.args.node stored.0 stored.1 stored.2)
