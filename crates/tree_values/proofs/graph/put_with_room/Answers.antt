use Rattle.tree_values.proofs.Entering.{puts-after-ok}
use Rattle.tree_values.proofs.graph.put_with_room.Goals as goal

pub returns : goal.returns
returns c = puts-after-ok c.put_at.result c.args.lists.now.items c.fill_to.new.items.items c.put_at.new.lists.items c.args.at c.args.number (rw c.new-nothing.ensures at c.fill_to.ensures.same) c.put_at.ensures.put
