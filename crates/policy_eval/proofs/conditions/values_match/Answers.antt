use Rattle.std.proofs.Common.{rules}
use Rattle.policy_eval.proofs.conditions.values_match.Goals as goal

pub returns-in-ForAll : goal.returns-in-ForAll
returns-in-ForAll c = rw c.in-ForAll.is (search rules)

pub returns-in-ForAny : goal.returns-in-ForAny
returns-in-ForAny c = search rules
