-- The search finds this unasked; asked for here, a wrong body is refused without a longer search.
use Rattle.std.proofs.Common.{rules}
use Rattle.request_schema.proofs.inference.check_use.Goals as goal

pub returns-then-not-takes_family : goal.returns-then-not-takes_family
returns-then-not-takes_family c = search rules
