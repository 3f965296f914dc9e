use Rattle.std.proofs.Common.{take}
use Rattle.request_build.specs.Taken.{HasFirstValues}
use Rattle.request_build.proofs.context.first_values.Given as goal

-- of the slots so far
abbrev pub invariant-loop-slot : goal.invariant-loop-slot
invariant-loop-slot l = HasFirstValues (take l.slot-index l.values) l.found
