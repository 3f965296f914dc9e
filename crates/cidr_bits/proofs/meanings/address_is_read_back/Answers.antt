use Rattle.cidr_bits.proofs.ReadBack.{address_read_back}
use Rattle.cidr_bits.proofs.meanings.address_is_read_back.Goals as goal

pub returns : goal.returns
returns c = address_read_back
