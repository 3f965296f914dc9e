use Rattle.std.proofs.Common.{◌≡◌}
use Rattle.query_reduction.proofs.candidates.Candidates.add_led.Given as goal

abbrev pub invariant-tests : goal.invariant-tests
invariant-tests l = l.relations ≡ l.initial.relations
