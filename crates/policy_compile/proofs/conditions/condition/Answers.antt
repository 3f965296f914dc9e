-- The search finds this unasked; asked for here, a wrong body is refused without a longer search.
use Rattle.std.proofs.Common.{rules}
use Rattle.policy_compile.proofs.conditions.condition.Goals as goal

pub returns-then-not-condition : goal.returns-then-not-condition
returns-then-not-condition c = search rules

pub returns : goal.returns
returns c = search rules
