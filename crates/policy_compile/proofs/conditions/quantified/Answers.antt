-- The search finds this unasked; asked for here, a wrong body is refused without a longer search.
use Rattle.std.proofs.Common.{rules}
use Rattle.policy_compile.proofs.conditions.quantified.Goals as goal

pub returns-in-ForAll-false : goal.returns-in-ForAll-false
returns-in-ForAll-false c = search rules
