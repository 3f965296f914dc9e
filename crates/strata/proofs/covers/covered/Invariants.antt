use Rattle.std.proofs.Common.{◌≤◌, length}
use Rattle.strata.specs.Rows.{AreListed, IsMaximalByRows}
use Rattle.strata.proofs.covers.covered.Given as goal

-- those of the numbers so far are listed
abbrev pub invariant-loop-j : goal.invariant-loop-j
invariant-loop-j l = record {
  within : l.j ≤ length l.rows;
  listed : AreListed (IsMaximalByRows l.rows l.i) l.j l.numbers;
}
