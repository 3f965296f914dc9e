use Rattle.strata.specs.Rows.{IsNothingAmong}
use Rattle.strata.proofs.rows.is_nothing_between.Given as goal

-- none of the numbers so far is between
abbrev pub invariant-loop-k : goal.invariant-loop-k
invariant-loop-k l = IsNothingAmong l.rows l.k l.j l.i
