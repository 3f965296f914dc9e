-- The search finds this unasked; asked for here, a wrong body is refused without a longer search.
use Rattle.std.proofs.Common.{rules}
use Rattle.request_schema.proofs.value_text.value_written.Goals as goal

pub returns-in-Number-clause-value : goal.returns-in-Number-clause-value
returns-in-Number-clause-value c = search rules

pub returns-in-Number-clause-kind : goal.returns-in-Number-clause-kind
returns-in-Number-clause-kind c = search rules
