use Rattle.std.proofs.Common.{◌≡◌, ◌≤◌, ◌+◌, ◌*◌, ◌-◌}
use Rattle.wildcard_lang.specs.Accepts.{tests}
use Rattle.pattern_automata.specs.Packed.{word_with}
use Rattle.pattern_automata.specs.Moves.{piece_does}
use Rattle.pattern_automata.proofs.fronts.word_at.Given as goal

abbrev pub invariant-loop-i : goal.invariant-loop-i
invariant-loop-i l = (l.i ≤ 64) × (l.word ≡ word_with (tests (piece_does l.kind l.fronts) (64 * l.index + l.i) (64 - l.i)))

abbrev pub decreases-loop-i : goal.decreases-loop-i
decreases-loop-i l = l.i
