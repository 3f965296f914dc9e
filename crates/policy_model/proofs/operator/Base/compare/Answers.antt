-- The search finds this unasked; asked for here, a wrong body is refused without a longer search.
use Rattle.std.proofs.Common.{rules}
use Rattle.policy_model.proofs.operator.Base.compare.Goals as goal

pub returns-in-NumericLessThan : goal.returns-in-NumericLessThan
returns-in-NumericLessThan c = search rules
