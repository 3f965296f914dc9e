-- The search finds this unasked; asked for here, a wrong body is refused without a longer search.
use Rattle.std.proofs.Common.{rules}
use Rattle.wildcard_lang.proofs.places.mark_after.Goals as goal

pub returns-else-old : goal.returns-else-old
returns-else-old c = search rules
