use Rattle.set_operators.proofs.Laws.{asks_are_of_members}
use Rattle.set_operators.proofs.theorems.asks_are_of_members.Goals as goal

pub returns : goal.returns
returns c = asks_are_of_members
