-- The search finds this unasked; asked for here, a wrong body is refused without a longer search.
use Rattle.std.proofs.Common.{rules}
use Rattle.policy_json.proofs.conditions.read_operator.Goals as goal

pub returns-in_default-clause-read : goal.returns-in_default-clause-read
returns-in_default-clause-read c = search rules

pub returns-in_default-clause-added : goal.returns-in_default-clause-added
returns-in_default-clause-added c = tt
