use Rattle.cidr_bits.proofs.Reading.{whole_block}
use Rattle.cidr_bits.proofs.read.read_whole.Goals as goal

pub returns-in-Ok : goal.returns-in-Ok
returns-in-Ok c =
    whole_block _ c.in-Ok.address _ c.bits_of.result _ c.in-Ok.ensures.form c.block_at.ensures.first c.block_at.ensures.prefix c.bits_of.ensures
