use Rattle.std.proofs.Common.{◌≡◌, ◌<◌, ℕ, length, get_or}
use Rattle.pattern_automata.specs.Packed.{is_bit_on}
use Rattle.pattern_automata.specs.Steps.{masked_at}
use Rattle.pattern_automata.proofs.words.moved_words.Given as goal

abbrev pub invariant-loop-index : goal.invariant-loop-index
invariant-loop-index l =
    (length l.moved.items ≡ l.index)
    × ((k b : ℕ) → k < l.index → b < 64 → is_bit_on (get_or l.moved.items k 0) b ≡ masked_at l.masks l.state k b)
