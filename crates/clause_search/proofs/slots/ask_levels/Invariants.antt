use Rattle.clause_search.specs.Values.{AreFoundValues}
use Rattle.clause_search.proofs.slots.ask_levels.Given as goal

abbrev pub invariant-levels : goal.invariant-levels
invariant-levels l = AreFoundValues l.asked l.path l.values
