use Rattle.std.proofs.Common.{◌≡◌, map, take}
use Rattle.clause_proofs.proofs.checking.core_of.Given as goal

abbrev pub invariant-answers : goal.invariant-answers
invariant-answers l = l.core ≡ map (λ a. a.0) (take l.answer-index l.answers)
