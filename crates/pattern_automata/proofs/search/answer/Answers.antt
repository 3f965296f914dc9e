-- The search finds this unasked; asked for here, a wrong body is refused without a longer search.
use Rattle.std.proofs.Common.{rules}
use Rattle.pattern_automata.proofs.search.answer.Goals as goal

pub returns-in_ok-text_of-in-Met : goal.returns-in_ok-text_of-in-Met
returns-in_ok-text_of-in-Met c = search rules
