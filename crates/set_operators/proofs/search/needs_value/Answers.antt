-- The search finds this unasked; asked for here, a wrong body is refused without a longer search.
use Rattle.std.proofs.Common.{rules}
use Rattle.set_operators.proofs.search.needs_value.Goals as goal

pub returns-then-rule : goal.returns-then-rule
returns-then-rule c = search rules

pub returns-else-rule : goal.returns-else-rule
returns-else-rule c = search rules
