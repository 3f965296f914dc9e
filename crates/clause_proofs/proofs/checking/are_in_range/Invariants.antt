use Rattle.std.proofs.Common.{◌<◌, All, take}
use Rattle.clause_proofs.proofs.checking.are_in_range.Given as goal

abbrev pub invariant-answers : goal.invariant-answers
invariant-answers l = All (λ a. a.0 < l.tests) (take l.answer-index l.answers)
