use Rattle.std.proofs.Common.{◌≡◌, ◌+◌, ◌++◌}
use Rattle.pattern_automata.specs.Packed.{word_mark}
use Rattle.wildcard_lang.specs.Places.{passing_numbers}
use Rattle.pattern_automata.proofs.places.add_places.Given as goal

abbrev pub invariant-loop-i : goal.invariant-loop-i
invariant-loop-i l = l.places.items ≡ l.fn.places.items ++ passing_numbers (λ j. word_mark l.words (l.at + j)) 0 l.i
