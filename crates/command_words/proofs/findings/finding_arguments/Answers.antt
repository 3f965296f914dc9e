-- The search finds this unasked; asked for here, a wrong body is refused without a longer search.
use Rattle.std.proofs.Common.{rules}
use Rattle.command_words.proofs.findings.finding_arguments.Goals as goal

pub returns-clause-value : goal.returns-clause-value
returns-clause-value c = search rules
