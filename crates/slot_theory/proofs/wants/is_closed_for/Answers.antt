use Rattle.slot_theory.proofs.Wanting.{wants-range}
use Rattle.slot_theory.proofs.wants.is_closed_for.Goals as goal

pub is_closed-requires : goal.is_closed-requires
is_closed-requires c = wants-range _ _ _ _ c.requires.wanted.patterns _ c.in_ok-wants.ensures
