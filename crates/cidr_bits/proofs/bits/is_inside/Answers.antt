-- The search finds this unasked; asked for here, a wrong body is refused without a longer search.
use Rattle.std.proofs.Common.{rules}
use Rattle.cidr_bits.proofs.bits.is_inside.Goals as goal

pub returns-in-V4-V4 : goal.returns-in-V4-V4
returns-in-V4-V4 c = search rules

pub returns-in_default : goal.returns-in_default
returns-in_default c = search rules

pub returns-in_default-2 : goal.returns-in_default-2
returns-in_default-2 c = search rules
