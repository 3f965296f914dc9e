use Rattle.std.proofs.Common.{◌≡◌, length}
use Rattle.wildcard_lang.specs.Covering.{clashes}
use Rattle.wildcard_lang.proofs.covering.clashing.Given as goal

abbrev pub invariant-front : goal.invariant-front
invariant-front l = clashes l.rest l.left ≡ clashes l.pieces l.others

abbrev pub decreases-front : goal.decreases-front
decreases-front l = length l.rest
