-- The search finds this unasked; asked for here, a wrong body is refused without a longer search.
use Rattle.std.proofs.Common.{rules}
use Rattle.value_theory.proofs.samples.push_last.Goals as goal

pub returns-in-Number-clause-items : goal.returns-in-Number-clause-items
returns-in-Number-clause-items c = search rules
