-- The search finds this unasked; asked for here, a wrong body is refused without a longer search.
use Rattle.std.proofs.Common.{rules}
use Rattle.cidr_bits.proofs.read.is_plain.Goals as goal

pub returns-in-48 : goal.returns-in-48
returns-in-48 c = search rules
