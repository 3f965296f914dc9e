use Rattle.slot_theory.proofs.Stating.{some-listed}
use Rattle.slot_theory.proofs.unasked.first_listed.Goals as goal

pub unreachable-requires : goal.unreachable-requires
unreachable-requires c = some-listed c.args.rule.now c.args.listed.now c.requires.among c.requires.sound (rw c.in-None.is at c.get.ensures)
