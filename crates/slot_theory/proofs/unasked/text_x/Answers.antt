use Rattle.std.proofs.Common.{rules}
use Rattle.std.specs.Str.{chars}
use Rattle.slot_theory.proofs.unasked.text_x.Goals as goal

pub returns : goal.returns
unfolding chars
returns c = search rules
