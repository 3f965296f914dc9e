use Rattle.clause_search.specs.Values.{AreFoundValues}
use Rattle.clause_search.proofs.slots.ask_slots.Given as goal

abbrev pub invariant-answers : goal.invariant-answers
invariant-answers l = AreFoundValues l.asked l.path l.values
