use Rattle.std.proofs.Common.{◌≡◌, map, take}
use Rattle.command_words.specs.Asked.{lower_case, texts_in}
use Rattle.command_words.proofs.dimensions.lowered.Given as goal

abbrev pub invariant-loop-name : goal.invariant-loop-name
invariant-loop-name l = texts_in l.all.items ≡ map lower_case (texts_in (take l.name-index l.names))
