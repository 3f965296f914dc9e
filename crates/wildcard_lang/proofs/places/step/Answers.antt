use Rattle.std.proofs.Common.{arith, length-set, Bool}
use Rattle.wildcard_lang.specs.Matching.{takes}
use Rattle.wildcard_lang.proofs.Accept.{Steps-start, Steps-more}
use Rattle.wildcard_lang.proofs.places.step.Goals as goal

pub loop-i-preserved : goal.loop-i-preserved
loop-i-preserved c =
    Steps-more takes _ _ _ _ _ _ _ _ c.loop-i-test.true (omega (arith, length-set {A = Bool})) c.mark_after.ensures c.loop-i.invariant

pub loop-i-init : goal.loop-i-init
loop-i-init c = Steps-start takes _ _ _ (omega arith)
