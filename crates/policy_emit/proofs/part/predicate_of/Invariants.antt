use Rattle.std.proofs.Common.{◌≡◌, drop}
use Rattle.policy_emit.specs.Emitted.{predicate_of}
use Rattle.policy_emit.proofs.part.predicate_of.Given as goal

abbrev pub invariant-dimensions : goal.invariant-dimensions
invariant-dimensions l = predicate_of l.fn.part l.fn.strata.dimensions l.fn.finding ≡ predicate_of l.fn.part (drop l.i l.fn.strata.dimensions) (drop l.i l.fn.finding)
