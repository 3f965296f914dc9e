use Rattle.std.proofs.Common.{◌≡◌, ◌≤◌, length}
use Rattle.strata.specs.Making.{AreStrataAmong}
use Rattle.strata.proofs.search.all_strata.Given as goal

-- the strata of the slots so far
abbrev pub invariant-loop-d : goal.invariant-loop-d
invariant-loop-d g l = record {
  within : l.d ≤ length l.slots;
  schema : g.I.Inclusion.schema l.by ≡ g.I.Inclusion.schema l.initial.by;
  states : g.I.Inclusion.states l.by ≡ g.I.Inclusion.states l.initial.by;
  made : AreStrataAmong (g.I.Inclusion.schema l.initial.by) l.slots l.all l.d l.dimensions;
}
