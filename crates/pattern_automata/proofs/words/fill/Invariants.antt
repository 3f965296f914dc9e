use Rattle.std.proofs.Common.{◌≡◌, ◌<◌, ℕ}
use Rattle.pattern_automata.specs.Packed.{filled_marks, is_bit_on}
use Rattle.pattern_automata.proofs.words.fill.Given as goal

abbrev pub invariant-loop-round : goal.invariant-loop-round
invariant-loop-round l = (i : ℕ) → i < l.round → i < 64 → is_bit_on l.word i ≡ filled_marks (is_bit_on l.set) (is_bit_on l.leads) l.first i
