use Rattle.cidr_bits.proofs.Readings.{address_of_is_the_form}
use Rattle.cidr_bits.proofs.meanings.address_of_is_the_form.Goals as goal

pub returns : goal.returns
returns c = address_of_is_the_form
