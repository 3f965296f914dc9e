use Rattle.set_operators.specs.Steps.{IsAskedSoFar, picked_asks}
use Rattle.std.proofs.Common.{drop}
use Rattle.set_operators.proofs.numbered.asked_of.Given as goal

abbrev pub invariant-loop-i : goal.invariant-loop-i
invariant-loop-i g l =
    IsAskedSoFar g.L.Numbered.literal_of g.T.Item.items_of (picked_asks l.choice 0 l.asks) (picked_asks l.choice l.i (drop l.i l.asks)) l.asked.items l.asked.clauses
