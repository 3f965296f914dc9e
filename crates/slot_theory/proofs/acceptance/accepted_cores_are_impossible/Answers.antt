use Rattle.slot_theory.proofs.Impossible.{core_impossible}
use Rattle.slot_theory.proofs.acceptance.accepted_cores_are_impossible.Goals as goal

pub returns : goal.returns
returns c = core_impossible
