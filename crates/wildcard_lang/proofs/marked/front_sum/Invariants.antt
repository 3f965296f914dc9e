use Rattle.std.proofs.Common.{◌≡◌, ◌-◌}
use Rattle.wildcard_lang.specs.FrontSums.{front_sum}
use Rattle.wildcard_lang.proofs.marked.front_sum.Given as goal

abbrev pub invariant-front : goal.invariant-front
invariant-front l = front_sum (l.count - l.counter) l.sum l.rest ≡ front_sum l.count 0 l.pieces
