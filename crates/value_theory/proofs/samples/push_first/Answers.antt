-- The search finds this unasked; asked for here, a wrong body is refused without a longer search.
use Rattle.std.proofs.Common.{rules, arith}
use Rattle.std.proofs.lemmas.Grind.{common_steps}
use Rattle.value_theory.proofs.samples.push_first.Goals as goal

pub returns-in-Number-clause-items : goal.returns-in-Number-clause-items
returns-in-Number-clause-items c = search rules

pub returns-in_ok-push-in-Address-clause-items : goal.returns-in_ok-push-in-Address-clause-items
returns-in_ok-push-in-Address-clause-items c = grind (arith, common_steps)
