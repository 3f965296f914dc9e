-- The search finds this unasked; asked for here, a wrong body is refused without a longer search.
use Rattle.std.proofs.Common.{rules}
use Rattle.proof_text.proofs.location.first_location.Goals as goal

pub returns-then-eq : goal.returns-then-eq
returns-then-eq c = search rules
