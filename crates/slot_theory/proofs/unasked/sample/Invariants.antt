use Rattle.std.proofs.Common.{◌≡◌, take}
use Rattle.slot_theory.specs.Unasked.{sample}
use Rattle.slot_theory.proofs.unasked.sample.Given as goal

abbrev pub invariant-loop-piece : goal.invariant-loop-piece
invariant-loop-piece l = l.chars.items ≡ sample (take l.piece-index l.pattern)
