use Rattle.set_operators.proofs.Choosing.{picked-chosen, wants-made}
use Rattle.set_operators.proofs.wants.wants_of.Goals as goal

pub returns : goal.returns
returns c =
    wants-made c.args.rule.now _ _ _ _ _ _ _ _ (picked-chosen c.args.asks.now c.args.choice c.requires.choice) c.in_ok-asked.ensures.items c.in_ok-asked.ensures.clauses
    c.in_ok-add_shape.ensures.items c.in_ok-add_shape.ensures.clauses c.in_ok-add_listed.ensures.items c.in_ok-add_listed.ensures.clauses
