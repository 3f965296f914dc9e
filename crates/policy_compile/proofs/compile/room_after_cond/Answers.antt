-- The search finds this unasked; asked for here, a wrong body is refused without a longer search.
use Rattle.std.proofs.Common.{rules}
use Rattle.policy_compile.proofs.compile.room_after_cond.Goals as goal

pub returns-in-Matches : goal.returns-in-Matches
returns-in-Matches c = search rules
