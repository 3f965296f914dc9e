use Rattle.set_operators.proofs.Laws.{wants_are_of_members}
use Rattle.set_operators.proofs.theorems.wants_are_of_members.Goals as goal

pub returns : goal.returns
returns c = wants_are_of_members
