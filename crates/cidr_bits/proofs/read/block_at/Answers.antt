use Rattle.std.proofs.Common.{arith}
use Rattle.cidr_bits.specs.Cleared.{width-cleared, number-cleared}
use Rattle.cidr_bits.proofs.read.block_at.Goals as goal

pub invariant_of-result : goal.invariant_of-result
invariant_of-result c = rw c.network_address-first.ensures (record {
  fits = omega (arith, width-cleared c.args.address c.args.prefix);
  clear = number-cleared c.args.address c.args.prefix;
})
