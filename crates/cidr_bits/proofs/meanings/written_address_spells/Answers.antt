use Rattle.cidr_bits.proofs.ReadBack.{spells}
use Rattle.cidr_bits.proofs.meanings.written_address_spells.Goals as goal

pub returns : goal.returns
returns c = spells
