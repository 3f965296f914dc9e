use Rattle.cidr_bits.proofs.Runs.{greatest_inside, greatest_above}
use Rattle.cidr_bits.proofs.bits.bounds.Goals as goal

pub returns-clause-greatest : goal.returns-clause-greatest
returns-clause-greatest c =
    let block = c.args.block.now in
    let said = c.last_address.ensures in
    record {
      inside = greatest_inside block.first block.prefix c.last_address.result block.clear said.family said.value;
      above = λ a. greatest_above block.first block.prefix c.last_address.result a block.clear said.family said.value;
    }
