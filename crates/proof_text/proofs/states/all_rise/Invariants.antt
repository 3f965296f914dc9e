use Rattle.std.proofs.Common.{◌≡◌, drop}
use Rattle.pattern_automata.specs.Closed.{all_rise}
use Rattle.proof_text.proofs.states.all_rise.Given as goal

abbrev pub invariant-loop-i : goal.invariant-loop-i
invariant-loop-i l = all_rise l.lists ≡ all_rise (drop l.i l.lists)
