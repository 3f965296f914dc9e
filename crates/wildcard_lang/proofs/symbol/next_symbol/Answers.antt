-- The search finds this unasked; asked for here, a wrong body is refused without a longer search.
use Rattle.std.proofs.Common.{arith}
use Rattle.std.proofs.lemmas.Grind.{common_steps}
use Rattle.wildcard_lang.proofs.symbol.next_symbol.Goals as goal

pub returns-then-opens_brace : goal.returns-then-opens_brace
returns-then-opens_brace c = grind (arith, common_steps)
