use Rattle.std.proofs.Common.{arith}
use Rattle.formula_tree.specs.Trees.{trees_of}
use Rattle.findings.proofs.Trees.{size-at}
use Rattle.findings.proofs.inhabited.+parts.Goals as goal

pub parts_of_each-parts_of-requires : goal.parts_of_each-parts_of-requires
parts_of_each-parts_of-requires t c = rw c.deref.ensures (omega (arith, size-at (trees_of c.args.branches.now) c.branches.i _ c.in-Some.ensures))
