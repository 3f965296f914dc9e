use Rattle.std.proofs.Common.{◌<◌, ℕ, Bool, length, get_or}
use Rattle.clause_search.proofs.searching.is_in_range.Given as goal

abbrev pub invariant-answers : goal.invariant-answers
invariant-answers l = (k : ℕ) (d : ℕ × Bool) → k < l.answer-index → (get_or l.answer-items k d).0 < length l.asked.query.now.tests
