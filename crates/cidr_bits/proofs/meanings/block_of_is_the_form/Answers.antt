use Rattle.cidr_bits.proofs.Readings.{block_of_is_the_form}
use Rattle.cidr_bits.proofs.meanings.block_of_is_the_form.Goals as goal

pub returns : goal.returns
returns c = block_of_is_the_form
