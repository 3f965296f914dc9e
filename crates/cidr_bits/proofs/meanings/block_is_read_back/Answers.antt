use Rattle.cidr_bits.proofs.ReadBack.{block_read_back}
use Rattle.cidr_bits.proofs.meanings.block_is_read_back.Goals as goal

pub returns : goal.returns
returns c = block_read_back
