-- The search finds this unasked; asked for here, a wrong body is refused without a longer search.
use Rattle.std.proofs.Common.{rules}
use Rattle.policy_model.proofs.validity.is_there.Goals as goal

pub returns-then-not-rule : goal.returns-then-not-rule
returns-then-not-rule c = search rules

pub returns-else-not-rule : goal.returns-else-not-rule
returns-else-not-rule c = search rules
