-- The search finds this unasked; asked for here, a wrong body is refused without a longer search.
use Rattle.std.proofs.Common.{rules}
use Rattle.cnf_clauses.proofs.clause.found_after.Goals as goal

pub returns-then-value-literal-2 : goal.returns-then-value-literal-2
returns-then-value-literal-2 c = search rules
