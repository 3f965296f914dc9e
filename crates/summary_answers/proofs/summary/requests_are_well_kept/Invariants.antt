use Rattle.std.proofs.Common.{take}
use Rattle.summary_answers.specs.Found.{AreWellKept}
use Rattle.summary_answers.proofs.summary.requests_are_well_kept.Given as goal

abbrev pub invariant-loop-found : goal.invariant-loop-found
invariant-loop-found l = AreWellKept (take l.found-index l.summary)
