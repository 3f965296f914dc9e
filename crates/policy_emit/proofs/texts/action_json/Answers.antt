-- The search finds this unasked; asked for here, a wrong body is refused without a longer search.
use Rattle.std.proofs.Common.{rules}
use Rattle.policy_emit.proofs.texts.action_json.Goals as goal

pub returns-clause-data : goal.returns-clause-data
returns-clause-data c = search rules
