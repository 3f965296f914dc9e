-- Blocks: the block around an address, and the least and the greatest address of a block.
use Rattle.std.specs.Prelude.{◌≡◌, ℕ, ◌-◌, ◌^◌, ◌≤◌, min, true}
use Rattle.cidr_bits.specs.declared.address.Address.{Address}
use Rattle.cidr_bits.specs.declared.block.Block.{Block}
use Rattle.cidr_bits.specs.Numbers.{width, number, network_address, lies_in}
use Rattle.cidr_bits.specs.Cleared.{fits-cleared, number-cleared}

-- how many addresses the block has
abbrev pub block_size : Block → ℕ
block_size block = 2 ^ (width block.first - block.prefix)

-- the address lies in the block
abbrev pub LiesIn : Block → Address → Type 0
LiesIn block a = lies_in block.first block.prefix a ≡ true

-- no address lies in both
abbrev pub AreDisjoint : Block → Block → Type 0
AreDisjoint one other = (a : Address) → LiesIn one a → ¬ LiesIn other a

-- the address lies in the block, and no address of the block is less
pub record IsLeast (block : Block) (least : Address) : Type 0 where
  pub inside : LiesIn block least
  pub below : (a : Address) → LiesIn block a → number least ≤ number a

-- the address lies in the block, and no address of the block is greater
pub record IsGreatest (block : Block) (greatest : Address) : Type 0 where
  pub inside : LiesIn block greatest
  pub above : (a : Address) → LiesIn block a → number a ≤ number greatest

-- the block of this prefix length that the address lies in; where the length is more than the address has bits, the block of the
-- address alone
abbrev pub block_around : Address → ℕ → Block
block_around a prefix = record {
  first = network_address a (min prefix (width a));
  prefix = min prefix (width a);
  fits = fits-cleared a prefix;
  clear = number-cleared a (min prefix (width a));
}
