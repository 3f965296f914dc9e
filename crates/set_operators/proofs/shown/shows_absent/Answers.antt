-- The search finds this unasked; asked for here, a wrong body is refused without a longer search.
use Rattle.std.proofs.Common.{rules}
use Rattle.set_operators.proofs.shown.shows_absent.Goals as goal

pub returns-then-wants_absent : goal.returns-then-wants_absent
returns-then-wants_absent c = search rules

pub returns-else-wants_absent : goal.returns-else-wants_absent
returns-else-wants_absent c = search rules
