-- The search finds this unasked; asked for here, a wrong body is refused without a longer search.
use Rattle.std.proofs.Common.{rules}
use Rattle.cidr_bits.proofs.bits.last_address.Goals as goal

pub returns-in-V4-clause-value : goal.returns-in-V4-clause-value
returns-in-V4-clause-value c = search rules
