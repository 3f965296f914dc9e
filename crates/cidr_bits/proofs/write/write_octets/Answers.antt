use Rattle.std.proofs.Common.{rules, append_assoc}
use Rattle.cidr_bits.proofs.write.write_octets.Goals as goal

pub returns : goal.returns
returns c = search (rules, append_assoc)
