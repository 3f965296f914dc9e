use Rattle.formula_tree.proofs.TreeLists.{branch_at, branch_past}
use Rattle.formula_tree.proofs.formula.Branches.get.Goals as goal

pub returns-then-i-branches : goal.returns-then-i-branches
returns-then-i-branches c = branch_at c.as_slice-branches.result.now _ c.args.i c.index-branches-i.result c.as_slice-branches.ensures c.if-i-branches.true

pub returns-else-i-branches : goal.returns-else-i-branches
returns-else-i-branches c = branch_past c.as_slice-branches.result.now _ c.args.i c.as_slice-branches.ensures c.if-i-branches.false
