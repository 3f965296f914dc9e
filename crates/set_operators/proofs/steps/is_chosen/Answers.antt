-- The search finds this unasked; asked for here, a wrong body is refused without a longer search.
use Rattle.std.proofs.Common.{rules}
use Rattle.set_operators.proofs.steps.is_chosen.Goals as goal

pub returns-else-index-named : goal.returns-else-index-named
returns-else-index-named c = search rules
