use Rattle.std.proofs.Common.{◌≡◌, ◌<◌, ◌*◌, ℕ, false, length, get_or}
use Rattle.pattern_automata.specs.Packed.{word_mark, filled_marks, mark_before}
use Rattle.pattern_automata.proofs.words.fill_words.Given as goal

abbrev pub invariant-loop-index : goal.invariant-loop-index
invariant-loop-index l =
    (length l.words.items ≡ l.index)
    × ((j : ℕ) → j < length l.words.items → get_or l.words.items j 0 < 18446744073709551616)
    × ((j : ℕ) → j < 64 * l.index → word_mark l.words.items j ≡ filled_marks (word_mark l.moved) (word_mark l.leads) false j)
    × (l.below ≡ mark_before false (filled_marks (word_mark l.moved) (word_mark l.leads) false) (64 * l.index))
