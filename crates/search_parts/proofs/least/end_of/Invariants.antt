use Rattle.std.proofs.Common.{◌<◌, ◌≤◌, ◌^◌, All, take}
use Rattle.search_parts.proofs.least.end_of.Given as goal

abbrev pub invariant-pairs : goal.invariant-pairs
invariant-pairs l = All (λ a. a.0 < l.end) (take l.pair-index l.pairs) × (l.end ≤ 2 ^ 32)
