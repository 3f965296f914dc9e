-- The search finds this unasked; asked for here, a wrong body is refused without a longer search.
use Rattle.std.proofs.Common.{rules}
use Rattle.strata.proofs.predicate.test_of.Goals as goal

pub returns-in_ok-copy-in-Resource-Word : goal.returns-in_ok-copy-in-Resource-Word
returns-in_ok-copy-in-Resource-Word c = search rules
