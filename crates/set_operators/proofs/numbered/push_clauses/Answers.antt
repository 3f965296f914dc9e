-- The search finds this unasked; asked for here, a wrong body is refused without a longer search.
use Rattle.std.proofs.Common.{rules}
use Rattle.set_operators.proofs.numbered.push_clauses.Goals as goal

pub returns-in-SomeMeetsNone : goal.returns-in-SomeMeetsNone
returns-in-SomeMeetsNone c = search rules
