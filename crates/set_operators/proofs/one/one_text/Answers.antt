use Rattle.set_operators.proofs.Choosing.{chosen-there}
use Rattle.set_operators.proofs.Answering.{text-found}
use Rattle.set_operators.proofs.one.one_text.Goals as goal

pub returns-in-Found : goal.returns-in-Found
returns-in-Found c =
    text-found c.args.rule.now _ c.args.states _ c.in-Found.text c.requires.kind (chosen-there c.args.asks.now c.args.choice c.requires.choice c.requires.posed.there)
    c.in-Found.is c.in_ok-text.ensures
