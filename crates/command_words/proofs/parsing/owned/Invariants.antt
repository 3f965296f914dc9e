use Rattle.std.proofs.Common.{◌≡◌, map, take}
use Rattle.command_words.specs.Asked.{texts_in}
use Rattle.command_words.proofs.parsing.owned.Given as goal

abbrev pub invariant-loop-text : goal.invariant-loop-text
invariant-loop-text l = texts_in l.all.items ≡ map (λ text. text.now) (take l.text-index l.texts)
