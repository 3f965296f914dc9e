use Rattle.std.proofs.Common.{refl}
use Rattle.command_words.proofs.ranges.word_limits.Goals as goal

pub returns : goal.returns
returns c = record { splits = (refl, refl); states = (refl, refl); findings = (refl, refl); keys = refl; dimensions = refl }
