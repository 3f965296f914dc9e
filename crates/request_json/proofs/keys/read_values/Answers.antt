-- The search finds this unasked; asked for here, a wrong body is refused without a longer search.
use Rattle.std.proofs.Common.{rules}
use Rattle.request_json.proofs.keys.read_values.Goals as goal

pub returns-clause-read : goal.returns-clause-read
returns-clause-read c = search rules

pub returns-clause-permitted : goal.returns-clause-permitted
returns-clause-permitted c = search rules
