use Rattle.wildcard_lang.specs.Matching.{takes}
use Rattle.wildcard_lang.proofs.Accept.{Steps}
use Rattle.wildcard_lang.proofs.places.step.Given as goal

abbrev pub invariant-loop-i : goal.invariant-loop-i
invariant-loop-i l = Steps takes l.pieces l.fn.places l.c l.i l.before l.places
