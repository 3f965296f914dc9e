-- The search finds this unasked; asked for here, a wrong body is refused without a longer search.
use Rattle.std.proofs.Common.{rules}
use Rattle.intervals.proofs.compare.satisfies.Goals as goal

pub returns-in-LessOrEqual-clause-meaning : goal.returns-in-LessOrEqual-clause-meaning
returns-in-LessOrEqual-clause-meaning c = search rules

pub returns-in-LessOrEqual-clause-value : goal.returns-in-LessOrEqual-clause-value
returns-in-LessOrEqual-clause-value c = search rules
