-- The search finds this unasked; asked for here, a wrong body is refused without a longer search.
use Rattle.std.proofs.Common.{arith}
use Rattle.std.proofs.lemmas.Grind.{common_steps}
use Rattle.policy_eval.proofs.conditions.null_holds.Goals as goal

pub returns-in-Truth : goal.returns-in-Truth
returns-in-Truth c = grind (arith, common_steps)
