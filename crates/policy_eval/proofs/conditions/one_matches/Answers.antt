-- The search finds this unasked; asked for here, a wrong body is refused without a longer search.
use Rattle.std.proofs.Common.{rules}
use Rattle.policy_eval.proofs.conditions.one_matches.Goals as goal

pub returns-in-empty : goal.returns-in-empty
returns-in-empty c = search rules
