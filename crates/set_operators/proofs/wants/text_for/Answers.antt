use Rattle.set_operators.proofs.Choosing.{made-range}
use Rattle.set_operators.proofs.wants.text_for.Goals as goal

pub product-requires-clause-range : goal.product-requires-clause-range
product-requires-clause-range c = made-range _ _ _ c.in_ok-wants.ensures
