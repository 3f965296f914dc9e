use Rattle.tree_values.proofs.Entering.{puts-both-ok}
use Rattle.tree_values.proofs.graph.put_at_both.Goals as goal

pub returns-clause-put : goal.returns-clause-put
returns-clause-put c =
    puts-both-ok c.put_at-2.result c.args.lists.now.items c.put_at.new.lists.items c.put_at-2.new.lists.items c.args.first c.args.second c.args.number c.in_ok-put_at.ensures.put c.put_at-2.ensures.put
