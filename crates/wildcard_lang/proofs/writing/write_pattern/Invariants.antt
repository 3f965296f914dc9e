use Rattle.std.proofs.Common.{◌≡◌, take}
use Rattle.wildcard_lang.specs.Writing.{written_form}
use Rattle.wildcard_lang.proofs.writing.write_pattern.Given as goal

abbrev pub invariant-loop-piece : goal.invariant-loop-piece
invariant-loop-piece l = l.written.items ≡ written_form (take l.piece-index l.fn.pattern)
