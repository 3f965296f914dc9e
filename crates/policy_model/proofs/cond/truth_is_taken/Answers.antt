-- The search finds this unasked; asked for here, a wrong body is refused without a longer search.
use Rattle.std.proofs.Common.{rules}
use Rattle.policy_model.proofs.cond.truth_is_taken.Goals as goal

pub returns-in-Truth-true : goal.returns-in-Truth-true
returns-in-Truth-true c = search rules
