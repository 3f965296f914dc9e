-- The search finds this unasked; asked for here, a wrong body is refused without a longer search.
use Rattle.staged_search.proofs.stages.by_clauses.Goals as goal

pub returns-in-Open : goal.returns-in-Open
returns-in-Open c = tt
