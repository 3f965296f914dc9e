-- The search finds this unasked; asked for here, a wrong body is refused without a longer search.
use Rattle.std.proofs.Common.{rules}
use Rattle.value_theory.proofs.clause.literal_holds.Goals as goal

pub returns-then-literal : goal.returns-then-literal
returns-then-literal c = search rules

pub returns-else-literal : goal.returns-else-literal
returns-else-literal c = search rules
