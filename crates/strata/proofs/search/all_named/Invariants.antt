use Rattle.std.proofs.Common.{◌≤◌, length}
use Rattle.strata.specs.Making.{AreAllNamed}
use Rattle.strata.proofs.search.all_named.Given as goal

-- what is named in the slots so far, in none of them too much
abbrev pub invariant-loop-d : goal.invariant-loop-d
invariant-loop-d l = record {
  within : l.d ≤ length l.slots;
  named : AreAllNamed l.most l.tests l.slots l.d l.all;
}
