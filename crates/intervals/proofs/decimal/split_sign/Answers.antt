-- The search finds this unasked; asked for here, a wrong body is refused without a longer search.
use Rattle.std.proofs.Common.{rules}
use Rattle.intervals.proofs.decimal.split_sign.Goals as goal

pub returns-in-45-clause-sign : goal.returns-in-45-clause-sign
returns-in-45-clause-sign c = search rules
