use Rattle.std.proofs.Common.{◌≡◌, length}
use Rattle.pattern_automata.specs.Answer.{AreStatesOf}
use Rattle.pattern_automata.specs.Cuts.{AreEndsOf, cut_at}
use Rattle.pattern_automata.proofs.places.closed_of.Given as goal

abbrev pub invariant-loop-i : goal.invariant-loop-i
invariant-loop-i l =
    AreEndsOf 0 l.ends.items (length l.places.items)
    × AreEndsOf 0 l.states.items (length (cut_at 0 l.ends.items l.places.items))
    × (length (cut_at 0 l.states.items (cut_at 0 l.ends.items l.places.items)) ≡ l.i)
    × AreStatesOf l.patterns l.found (cut_at 0 l.states.items (cut_at 0 l.ends.items l.places.items))
