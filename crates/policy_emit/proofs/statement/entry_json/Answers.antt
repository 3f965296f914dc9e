-- The search finds this unasked; asked for here, a wrong body is refused without a longer search.
use Rattle.std.proofs.Common.{arith}
use Rattle.std.proofs.lemmas.Grind.{common_steps}
use Rattle.policy_emit.proofs.statement.entry_json.Goals as goal

pub returns-in_ok-under_kind-in-Kind-clause-data : goal.returns-in_ok-under_kind-in-Kind-clause-data
returns-in_ok-under_kind-in-Kind-clause-data c = grind (arith, common_steps)
