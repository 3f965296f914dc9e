-- The search finds this unasked; asked for here, a wrong body is refused without a longer search.
use Rattle.std.proofs.Common.{rules}
use Rattle.policy_json.proofs.principals.entry_of.Goals as goal

pub returns-in_default : goal.returns-in_default
returns-in_default c = search rules
