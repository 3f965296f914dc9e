-- The search finds this unasked; asked for here, a wrong body is refused without a longer search.
use Rattle.std.proofs.Common.{rules}
use Rattle.value_theory.proofs.meaning.meets_condition.Goals as goal

pub returns-in-Number-Compares : goal.returns-in-Number-Compares
returns-in-Number-Compares c = search rules
