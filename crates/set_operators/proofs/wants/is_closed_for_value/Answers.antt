use Rattle.set_operators.proofs.Choosing.{made-range}
use Rattle.set_operators.proofs.wants.is_closed_for_value.Goals as goal

pub is_closed-requires : goal.is_closed-requires
is_closed-requires c = made-range _ _ _ c.in_ok-wants.ensures
