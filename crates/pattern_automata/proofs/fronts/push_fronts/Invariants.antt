use Rattle.std.proofs.Common.{◌≡◌, ◌++◌, ◌∷◌, map, take, None, Some}
use Rattle.pattern_automata.proofs.fronts.push_fronts.Given as goal

abbrev pub invariant-loop-piece : goal.invariant-loop-piece
invariant-loop-piece l = l.fronts.items ≡ l.fn.fronts.items ++ (None ∷ map Some (take l.piece-index l.piece-items))
