-- The search finds this unasked; asked for here, a wrong body is refused without a longer search.
use Rattle.std.proofs.Common.{rules}
use Rattle.policy_eval.proofs.conditions.holds_of_values.Goals as goal

pub returns-then-is_empty : goal.returns-then-is_empty
returns-then-is_empty c = search rules

pub returns-else-is_empty : goal.returns-else-is_empty
returns-else-is_empty c = search rules
