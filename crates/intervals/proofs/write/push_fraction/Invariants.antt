use Rattle.std.proofs.Common.{string_bytes}
use Rattle.intervals.proofs.Fractions.{Writing}
use Rattle.intervals.proofs.write.push_fraction.Given as goal

abbrev pub invariant-loop-done : goal.invariant-loop-done
invariant-loop-done l = Writing (string_bytes l.fn.text) l.units (string_bytes l.text) l.done l.rest
