use Rattle.slot_theory.specs.Shrinking.{IsKept}
use Rattle.slot_theory.proofs.Shrinking.{found-or-had}
use Rattle.slot_theory.proofs.cutting.smaller.Goals as goal

pub returns : goal.returns
returns c = found-or-had (IsKept c.args.question.now) c.without_test-fewer.result c.args.kept c.found_or.result c.found_or.ensures c.requires.kept c.without_test-fewer.ensures
