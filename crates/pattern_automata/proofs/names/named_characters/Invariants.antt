use Rattle.std.proofs.Common.{◌≡◌, ℕ, take}
use Rattle.std.specs.Char.{IsScalar}
use Rattle.wildcard_lang.specs.Places.{contains_place}
use Rattle.pattern_automata.specs.Closed.{is_named_character}
use Rattle.pattern_automata.proofs.names.named_characters.Given as goal

abbrev pub invariant-loop-pattern : goal.invariant-loop-pattern
invariant-loop-pattern l = (d : ℕ) → IsScalar d → contains_place l.set.keys d ≡ is_named_character (take l.pattern-index l.patterns) d
