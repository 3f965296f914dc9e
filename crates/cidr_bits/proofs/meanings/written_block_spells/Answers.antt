use Rattle.cidr_bits.proofs.ReadBack.{block_spells}
use Rattle.cidr_bits.proofs.meanings.written_block_spells.Goals as goal

pub returns : goal.returns
returns c = λ block fits. block_spells block.first block.prefix fits block.fits block.clear
