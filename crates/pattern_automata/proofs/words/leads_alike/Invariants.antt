use Rattle.std.proofs.Common.{All, take}
use Rattle.pattern_automata.specs.Steps.{IsAway}
use Rattle.pattern_automata.proofs.words.leads_alike.Given as goal

abbrev pub invariant-loop-patch : goal.invariant-loop-patch
invariant-loop-patch l = All (IsAway l.state) (take l.patch-index l.patches)
