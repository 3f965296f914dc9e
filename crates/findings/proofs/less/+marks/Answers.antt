use Rattle.std.proofs.Common.{arith}
use Rattle.formula_tree.specs.Trees.{trees_of}
use Rattle.findings.proofs.Trees.{size-at}
use Rattle.findings.proofs.less.+marks.Goals as goal

pub mark_each-mark-requires : goal.mark_each-mark-requires
mark_each-mark-requires t c = rw c.deref.ensures (omega (arith, size-at (trees_of c.args.branches.now) c.branches.i _ c.in-Some.ensures))
