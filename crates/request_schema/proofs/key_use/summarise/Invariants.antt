use Rattle.std.proofs.Common.{take}
use Rattle.request_schema.specs.KeyUses.{Summarises}
use Rattle.request_schema.specs.Uses.{uses_found}
use Rattle.request_schema.proofs.key_use.summarise.Given as goal

abbrev pub invariant-loop-found : goal.invariant-loop-found
invariant-loop-found l = Summarises (uses_found (take l.found-index l.uses)) l.table
