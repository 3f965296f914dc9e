use Rattle.std.proofs.Common.{◌≡◌, ◌≤◌, length, drop}
use Rattle.pattern_automata.specs.Packed.{word_with}
use Rattle.pattern_automata.proofs.words.word_with.Given as goal

abbrev pub invariant-loop-i : goal.invariant-loop-i
invariant-loop-i l = (l.i ≤ length l.marks) × (l.word ≡ word_with (drop l.i l.marks))

abbrev pub decreases-loop-i : goal.decreases-loop-i
decreases-loop-i l = l.i
