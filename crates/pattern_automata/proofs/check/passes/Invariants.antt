use Rattle.std.proofs.Common.{◌≡◌, ℕ, List, Bool, true, length, take, Contains}
use Rattle.std.specs.Char.{IsScalar}
use Rattle.wildcard_lang.specs.Places.{contains_place}
use Rattle.pattern_automata.specs.Marks.{all_reached, mark_count}
use Rattle.pattern_automata.specs.Moves.{characters_of}
use Rattle.pattern_automata.specs.Packed.{pack}
use Rattle.pattern_automata.proofs.check.passes.Given as goal

abbrev pub invariant-loop-k : goal.invariant-loop-k
invariant-loop-k l =
    (marks : List Bool) → length marks ≡ mark_count l.wants.patterns → l.words ≡ pack marks →
    (c : ℕ) → IsScalar c → contains_place (characters_of (take l.k l.machine.moves.items)) c ≡ true → Contains l.index (pack (all_reached l.wants.patterns marks c))
