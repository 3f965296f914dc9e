use Rattle.slot_theory.proofs.Alike.{accepts_alike}
use Rattle.slot_theory.proofs.acceptance.accepts_by_the_core_alone.Goals as goal

pub returns : goal.returns
returns c = accepts_alike
