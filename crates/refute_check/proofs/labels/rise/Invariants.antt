use Rattle.std.proofs.Common.{◌≡◌, ◌≤◌, ◌^◌, drop, map}
use Rattle.pattern_automata.specs.Closed.{rises_from}
use Rattle.refute_check.proofs.labels.rise.Given as goal

abbrev pub invariant-pairs : goal.invariant-pairs
invariant-pairs l = (rises_from l.next (map (λ a. a.0) (drop l.pair-index l.answers)) ≡ rises_from 0 (map (λ a. a.0) l.answers)) × (l.next ≤ 2 ^ 32)
