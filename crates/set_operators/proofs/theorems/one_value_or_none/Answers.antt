use Rattle.set_operators.proofs.Laws.{one_value_or_none}
use Rattle.set_operators.proofs.theorems.one_value_or_none.Goals as goal

pub returns : goal.returns
returns c = one_value_or_none
