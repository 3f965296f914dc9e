-- The search finds this unasked; asked for here, a wrong body is refused without a longer search.
use Rattle.std.proofs.Common.{rules}
use Rattle.cidr_bits.proofs.read.network_address.Goals as goal

pub returns-in-V4 : goal.returns-in-V4
returns-in-V4 c = search rules
