-- The search finds this unasked; asked for here, a wrong body is refused without a longer search.
use Rattle.std.proofs.Common.{rules}
use Rattle.request_schema.proofs.key_use.more_use.Goals as goal

pub returns-then-known-2 : goal.returns-then-known-2
returns-then-known-2 c = search rules

pub returns-else-known-2 : goal.returns-else-known-2
returns-else-known-2 c = search rules
