use Rattle.std.proofs.Common.{◌≡◌, ◌≤◌, length}
use Rattle.strata.specs.Rows.{IsRow}
use Rattle.strata.proofs.Standing.{AreApart}
use Rattle.strata.proofs.kept.row_of.Given as goal

-- the row has the answers so far, and none so far is met by the same requests
abbrev pub invariant-loop-other : goal.invariant-loop-other
invariant-loop-other g l = record {
  within : l.other-index ≤ length l.kept;
  schema : g.I.Inclusion.schema l.by ≡ g.I.Inclusion.schema l.initial.by;
  states : g.I.Inclusion.states l.by ≡ g.I.Inclusion.states l.initial.by;
  row : IsRow (g.I.Inclusion.schema l.initial.by) l.slot l.kept l.other-index l.one l.row;
  apart : AreApart (g.I.Inclusion.schema l.initial.by) l.slot l.kept l.other-index l.one;
}
