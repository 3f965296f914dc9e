use Rattle.std.proofs.Common.{◌≡◌, ◌*◌, drop}
use Rattle.pattern_automata.specs.Packed.{words_of_marks}
use Rattle.pattern_automata.proofs.words.pack.Given as goal

abbrev pub invariant-loop-block : goal.invariant-loop-block
invariant-loop-block l = (l.words.items ≡ words_of_marks l.block l.marks) × (l.rest ≡ drop (64 * l.block) l.marks)
