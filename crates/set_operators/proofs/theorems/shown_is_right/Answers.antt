use Rattle.set_operators.proofs.Laws.{shown_is_right}
use Rattle.set_operators.proofs.theorems.shown_is_right.Goals as goal

pub returns : goal.returns
returns c = shown_is_right
