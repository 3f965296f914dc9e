use Rattle.std.proofs.Common.{refl}
use Rattle.std.specs.Str.{chars}
use Rattle.policy_model.proofs.operand.truth_word.Goals as goal

pub returns-then-truth : goal.returns-then-truth
unfolding chars
returns-then-truth c = rw c.if-truth.true refl

pub returns-else-truth : goal.returns-else-truth
unfolding chars
returns-else-truth c = rw c.if-truth.false refl
