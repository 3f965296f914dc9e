-- The search finds this unasked; asked for here, a wrong body is refused without a longer search.
use Rattle.std.proofs.Common.{arith}
use Rattle.std.proofs.lemmas.Grind.{common_steps}
use Rattle.request_schema.proofs.found.add_set.Goals as goal

pub returns : goal.returns
returns c = grind (arith, common_steps)
