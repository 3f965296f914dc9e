use Rattle.std.proofs.Common.{◌≡◌, drop}
use Rattle.command_words.specs.Asked.{are_distinct, texts_in}
use Rattle.command_words.proofs.dimensions.are_distinct.Given as goal

abbrev pub invariant-loop-i : goal.invariant-loop-i
invariant-loop-i l = are_distinct (texts_in (drop l.i l.texts)) ≡ are_distinct (texts_in l.texts)
