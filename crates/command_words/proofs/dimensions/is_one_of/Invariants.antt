use Rattle.std.proofs.Common.{◌≡◌, drop}
use Rattle.command_words.specs.Asked.{is_one_of, texts_in}
use Rattle.command_words.proofs.dimensions.is_one_of.Given as goal

abbrev pub invariant-loop-other : goal.invariant-loop-other
invariant-loop-other l = is_one_of l.fn.text (texts_in (drop l.other-index l.others)) ≡ is_one_of l.fn.text (texts_in l.others)
