-- The search finds this unasked; asked for here, a wrong body is refused without a longer search.
use Rattle.std.proofs.Common.{rules}
use Rattle.search_parts.proofs.least.has_either.Goals as goal

pub returns-then-is_some : goal.returns-then-is_some
returns-then-is_some c = search rules

pub returns-else-is_some : goal.returns-else-is_some
returns-else-is_some c = search rules
