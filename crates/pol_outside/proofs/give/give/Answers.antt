-- The search finds this unasked; asked for here, a wrong body is refused without a longer search.
use Rattle.std.proofs.Common.{rules}
use Rattle.pol_outside.proofs.give.give.Goals as goal

pub returns-then-bytes-most-2-clause-given : goal.returns-then-bytes-most-2-clause-given
returns-then-bytes-most-2-clause-given c = search rules
