use Rattle.slot_theory.specs.Shrinking.{IsKept}
use Rattle.slot_theory.proofs.Shrinking.{found-or-had}
use Rattle.slot_theory.proofs.together.reduced.Goals as goal

pub returns : goal.returns
returns c = found-or-had (IsKept c.args.question.now) c.confirmed-fewer.result c.args.first c.found_or.result c.found_or.ensures c.requires.kept c.confirmed-fewer.ensures
