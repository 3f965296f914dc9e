use Rattle.std.proofs.Common.{◌∙◌, sym}
use Rattle.slot_theory.proofs.Wording.{other-by}
use Rattle.slot_theory.proofs.trial.is_wrong.Goals as goal

pub returns : goal.returns
returns c = other-by c.args.slot.now c.args.value.now c.args.test.now c.meets.result c.args.holds (sym c.is_on.ensures ∙ c.if-not-is_on.false) c.meets.ensures
