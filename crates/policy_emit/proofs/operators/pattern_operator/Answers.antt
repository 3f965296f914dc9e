-- The search finds this unasked; asked for here, a wrong body is refused without a longer search.
use Rattle.std.proofs.Common.{rules}
use Rattle.policy_emit.proofs.operators.pattern_operator.Goals as goal

pub returns-then-some_is_narrow : goal.returns-then-some_is_narrow
returns-then-some_is_narrow c = search rules
