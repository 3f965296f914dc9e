-- The search finds this unasked; asked for here, a wrong body is refused without a longer search.
use Rattle.std.proofs.Common.{rules}
use Rattle.proof_text.proofs.states.closed_count.Goals as goal

pub returns-clause-set : goal.returns-clause-set
returns-clause-set c = search rules

pub returns-clause-slot : goal.returns-clause-slot
returns-clause-slot c = search rules

pub returns-clause-kind : goal.returns-clause-kind
returns-clause-kind c = search rules
