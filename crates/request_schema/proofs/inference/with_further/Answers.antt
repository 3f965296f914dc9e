use Rattle.request_schema.proofs.OfSets.{folded-at}
use Rattle.request_schema.proofs.inference.with_further.Goals as goal

pub add_further-requires : goal.add_further-requires
add_further-requires c = folded-at c.args.uses.now c.loop-found.found-index c.found-item.result c.requires c.loop-found-test.true c.found-item.is
