use Rattle.std.proofs.Common.{arith}
use Rattle.nogoods.proofs.Watches.{first-here, lacking-none, none-next}
use Rattle.nogoods.proofs.watching.first_contained.Goals as goal

pub each-init : goal.each-init
each-init c = λ k within hit. omega arith

pub each-preserved : goal.each-preserved
each-preserved c =
    none-next c.args.lists.now c.args.path.now c.each.i c.index-lists-i.result c.each-test.true c.index-lists-i.is (lacking-none c.index-lists-i.result c.args.path.now _ c.in-Some.ensures) c.each.invariant

pub returns-in-None : goal.returns-in-None
returns-in-None c = first-here c.args.lists.now c.args.path.now c.each.i c.index-lists-i.result c.each-test.true c.index-lists-i.is c.in-None.ensures c.each.invariant

pub returns : goal.returns
returns c = λ k within hit. omega (arith, c.each-test.false, c.each.invariant k within hit)
