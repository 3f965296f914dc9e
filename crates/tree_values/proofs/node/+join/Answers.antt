use Rattle.tree_values.proofs.Joining.{halves-ok, joined-prefix}
use Rattle.tree_values.proofs.node.+join.Goals as goal

pub returns-clause-at : goal.returns-clause-at
returns-clause-at t c =
    let front = c.split_at.result.0.now in
    let rest = c.split_at.result.1.now in
    halves-ok c.add_joint.result c.join-2.new.nodes c.add_joint.new.nodes c.args.every c.args.children.now front rest c.in_ok-first.first c.in_ok-second.second c.split_at.ensures.by_index.0
    (joined-prefix c.join.new.nodes c.join-2.new.nodes c.args.every front c.in_ok-first.first c.in_ok-second.ensures.grows c.in_ok-first.ensures.at) c.in_ok-second.ensures.at c.add_joint.ensures.at
