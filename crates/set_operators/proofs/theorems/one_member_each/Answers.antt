use Rattle.set_operators.proofs.Laws.{one_member_each}
use Rattle.set_operators.proofs.theorems.one_member_each.Goals as goal

pub returns : goal.returns
returns c = one_member_each
