use Rattle.slot_theory.proofs.Wanting.{wants-range}
use Rattle.slot_theory.proofs.wants.solve.Goals as goal

pub product_after-requires-clause-range : goal.product_after-requires-clause-range
product_after-requires-clause-range c = wants-range _ _ _ _ c.requires.wanted.patterns _ c.in_ok-wants.ensures
