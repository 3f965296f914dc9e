use Rattle.std.proofs.Common.{◌≤◌, length}
use Rattle.strata.specs.Rows.{AreMaximalByRows}
use Rattle.strata.proofs.covers.all_covered.Given as goal

-- the lists of the numbers so far
abbrev pub invariant-loop-i : goal.invariant-loop-i
invariant-loop-i l = record {
  within : l.i ≤ length l.rows;
  told : AreMaximalByRows l.rows l.i l.lists;
}
