-- The search finds this unasked; asked for here, a wrong body is refused without a longer search.
use Rattle.std.proofs.Common.{rules}
use Rattle.tree_values.proofs.tree_values.TreeValues.is_no_on.Goals as goal

pub returns-then-not-is_no_at-2-clause-no : goal.returns-then-not-is_no_at-2-clause-no
returns-then-not-is_no_at-2-clause-no c = search rules

pub returns-clause-no : goal.returns-clause-no
returns-clause-no c = search rules
