-- The search finds this unasked; asked for here, a wrong body is refused without a longer search.
use Rattle.std.proofs.Common.{rules}
use Rattle.proof_text.proofs.write.sign.Goals as goal

pub returns-then-yes : goal.returns-then-yes
returns-then-yes c = search rules

pub returns-else-yes : goal.returns-else-yes
returns-else-yes c = search rules
