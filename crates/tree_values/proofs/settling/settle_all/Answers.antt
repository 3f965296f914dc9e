use Rattle.std.proofs.Common.{List, ℕ, arith, drop, ◌+◌, subst}
use Rattle.std.proofs.lemmas.List.{drop_all, drop_more}
use Rattle.tree_values.specs.Models.{answer_at}
use Rattle.tree_values.specs.Nodes.{AreSettledBut}
use Rattle.tree_values.proofs.Agreeing.{settled-all}
use Rattle.tree_values.proofs.settling.settle_all.Goals as goal

pub indices-preserved : goal.indices-preserved
indices-preserved c =
    let nodes = c.args.graph.now.nodes.items in
    let answers = answer_at c.args.answers.now in
    let k = c.indices.index-index in
    let indices = c.args.indices.now in (
      c.settle.ensures.long,
      λ start. c.settle.ensures.settled (drop (k + 1) indices) (subst (λ (xs : List ℕ). AreSettledBut nodes answers c.indices.marks.items xs) (drop_more indices k 0 c.indices-test.true) (c.indices.invariant.1 start)),
    )

pub returns-clause-settled : goal.returns-clause-settled
returns-clause-settled c =
    let nodes = c.args.graph.now.nodes.items in
    let answers = answer_at c.args.answers.now in
    let k = c.indices.index-index in
    let indices = c.args.indices.now in
    λ start. settled-all nodes answers c.indices.marks.items (subst (λ (xs : List ℕ). AreSettledBut nodes answers c.indices.marks.items xs) (drop_all k indices (omega arith)) (c.indices.invariant.1 start))
