use Rattle.std.proofs.Common.{◌≤◌, length}
use Rattle.set_operators.proofs.Falling.{FallBetween}
use Rattle.set_operators.proofs.few.few_asks.Given as goal

abbrev pub invariant-asks : goal.invariant-asks
invariant-asks l = (l.left ≤ length l.asks) × FallBetween l.left (length l.asks) l.few.items

abbrev pub decreases-asks : goal.decreases-asks
decreases-asks l = l.left
