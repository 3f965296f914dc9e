use Rattle.set_operators.proofs.Choosing.{picked-chosen}
use Rattle.set_operators.proofs.Answering.{plain-made}
use Rattle.set_operators.proofs.plain.plain_wants.Goals as goal

pub returns : goal.returns
returns c = plain-made c.args.kind _ _ _ _ (picked-chosen c.args.asks.now c.args.choice c.requires) c.in_ok-asked.ensures.items c.in_ok-asked.ensures.clauses
