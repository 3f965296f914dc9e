-- The search finds this unasked; asked for here, a wrong body is refused without a longer search.
use Rattle.std.proofs.Common.{rules}
use Rattle.findings.proofs.text.pattern_word.Goals as goal

pub returns-then-some_is_narrow : goal.returns-then-some_is_narrow
returns-then-some_is_narrow c = search rules
