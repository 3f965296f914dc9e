use Rattle.std.proofs.Common.{string_bytes, length}
use denote.Text.{Utf8}
use denote.Shadow.{shadow}
use Rattle.line_expansion.proofs.Expanding.{Reading}
use Rattle.line_expansion.proofs.expand.Given as goal

abbrev pub invariant-loop-before : goal.invariant-loop-before
invariant-loop-before l = shadow (Utf8 l.rest) × Reading l.fn.line l.rest (string_bytes l.file)

abbrev pub decreases-loop-before : goal.decreases-loop-before
decreases-loop-before l = length l.rest
