use Rattle.std.proofs.Common.{take}
use Rattle.wildcard_lang.specs.Runs.{IsRun}
use Rattle.wildcard_lang.proofs.runs.run_length.Given as goal

abbrev pub invariant-pieces : goal.invariant-pieces
invariant-pieces l = IsRun (take l.i l.pieces)
