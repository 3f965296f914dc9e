use Rattle.cidr_bits.proofs.Reading.{one_address}
use Rattle.cidr_bits.proofs.meanings.text_spells_one_address.Goals as goal

pub returns : goal.returns
returns c = one_address
