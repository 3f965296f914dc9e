use Rattle.std.proofs.Common.{arith, length-set, Bool, ◌&&◌, ap, get_or, false}
use Rattle.wildcard_lang.specs.Matching.{takes}
use Rattle.wildcard_lang.proofs.Accept.{start-more}
use Rattle.wildcard_lang.proofs.places.start.Goals as goal

pub loop-i-preserved : goal.loop-i-preserved
loop-i-preserved c =
    start-more takes _ _ _ _ _ c.loop-i-test.true (omega (arith, length-set {A = Bool})) c.loop-i.invariant
    (ap (λ b. b && get_or c.loop-i.places c.loop-i.i false) c.is_many.ensures)
