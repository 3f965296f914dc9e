use Rattle.std.proofs.Common.{◌≡◌, ◌<◌, ◌*◌, ℕ, length}
use Rattle.pattern_automata.specs.Packed.{word_mark}
use Rattle.pattern_automata.specs.Moves.{piece_does}
use Rattle.pattern_automata.proofs.fronts.words_by.Given as goal

abbrev pub invariant-loop-index : goal.invariant-loop-index
invariant-loop-index l = (length l.words.items ≡ l.index) × ((j : ℕ) → j < 64 * l.index → word_mark l.words.items j ≡ piece_does l.kind l.fronts j)
