use Rattle.set_operators.proofs.Showing.{none-found}
use Rattle.set_operators.proofs.shown.has_none.Goals as goal

pub returns : goal.returns
returns c = none-found c.args.rule.now c.args.asks.now c.in_ok-answer.answer c.is_found.result c.requires.kind c.in_ok-answer.ensures.answer c.is_found.ensures
