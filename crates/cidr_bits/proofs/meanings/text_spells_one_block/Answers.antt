use Rattle.cidr_bits.proofs.ReadBack.{one_block}
use Rattle.cidr_bits.proofs.meanings.text_spells_one_block.Goals as goal

pub returns : goal.returns
returns c = one_block
