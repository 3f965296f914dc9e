use Rattle.std.proofs.Common.{rules, append_assoc, append-nil}
use Rattle.cidr_bits.proofs.write.write_address.Goals as goal

pub returns-in_ok-low-in-V6 : goal.returns-in_ok-low-in-V6
returns-in_ok-low-in-V6 c = search (rules, append_assoc, append-nil)

pub returns-in-V4 : goal.returns-in-V4
returns-in-V4 c = search rules
