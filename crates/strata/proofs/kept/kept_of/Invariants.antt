use Rattle.std.proofs.Common.{◌≡◌, ◌≤◌, length, take}
use Rattle.strata.specs.Settling.{AreKeptSoFar}
use Rattle.strata.proofs.kept.kept_of.Given as goal

-- what is kept of those so far
abbrev pub invariant-loop-one : goal.invariant-loop-one
invariant-loop-one g l = record {
  within : l.one-index ≤ length l.names;
  schema : g.I.Inclusion.schema l.by ≡ g.I.Inclusion.schema l.initial.by;
  states : g.I.Inclusion.states l.by ≡ g.I.Inclusion.states l.initial.by;
  keeps : AreKeptSoFar (g.I.Inclusion.schema l.initial.by) l.slot (take l.one-index l.names) l.kept;
}
