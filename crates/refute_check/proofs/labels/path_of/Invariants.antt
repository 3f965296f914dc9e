use Rattle.std.proofs.Common.{◌≡◌, take}
use Rattle.refute_check.proofs.labels.path_of.Given as goal

abbrev pub invariant-pairs : goal.invariant-pairs
invariant-pairs l = l.path ≡ take l.pair-index l.answers
