-- The search finds this unasked; asked for here, a wrong body is refused without a longer search.
use Rattle.std.proofs.Common.{rules}
use Rattle.slot_theory.proofs.unasked.stated_values.Goals as goal

pub returns-clause-value : goal.returns-clause-value
returns-clause-value c = search rules

pub returns-clause-permitted : goal.returns-clause-permitted
returns-clause-permitted c = search rules
