-- The search finds this unasked; asked for here, a wrong body is refused without a longer search.
use Rattle.std.proofs.Common.{rules}
use Rattle.policy_model.proofs.operator.takes_family.Goals as goal

pub returns-in-Truth-Text : goal.returns-in-Truth-Text
returns-in-Truth-Text c = search rules
