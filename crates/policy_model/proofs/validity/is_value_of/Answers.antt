-- The search finds this unasked; asked for here, a wrong body is refused without a longer search.
use Rattle.std.proofs.Common.{rules}
use Rattle.policy_model.proofs.validity.is_value_of.Goals as goal

pub returns-then-value_fits : goal.returns-then-value_fits
returns-then-value_fits c = search rules
