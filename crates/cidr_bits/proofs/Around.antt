-- Blocks around addresses.
use Rattle.std.proofs.Common.{◌≡◌, ◌-◌, sym, ap, ◌∙◌}
use Rattle.std.proofs.Math.Nat.{min-eq_left}
use Rattle.cidr_bits.specs.declared.block.Block.{Block}
use Rattle.cidr_bits.specs.Numbers.{network_address}
use Rattle.cidr_bits.specs.Blocks.{block_around}
use Rattle.cidr_bits.proofs.Equal.{block-path}
use Rattle.cidr_bits.proofs.ReadBack.{uncleared}

pub block_is_around_its_first : (block : Block) → block_around block.first block.prefix ≡ block
block_is_around_its_first block =
    let length = min-eq_left block.fits in
    block-path (block_around block.first block.prefix) block (ap (network_address block.first) length ∙ sym (uncleared block.first block.prefix block.clear)) length
