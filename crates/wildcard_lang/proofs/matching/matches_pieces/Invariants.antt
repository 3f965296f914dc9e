use Rattle.std.proofs.Common.{◌≡◌, ◌≤◌, length}
use Rattle.wildcard_lang.specs.Accepts.{accepts_by}
use Rattle.wildcard_lang.specs.Patterns.{IsPatternPart}
use Rattle.wildcard_lang.specs.declared.pattern.TheConstants.{MOST_PIECES}
use Rattle.wildcard_lang.proofs.matching.matches_pieces.Given as goal

abbrev pub invariant-back : goal.invariant-back
invariant-back g l = record {
  same : accepts_by g.X.Taken.taken l.rest (g.S.Source.left l.left) ≡ accepts_by g.X.Taken.taken l.pieces (g.S.Source.left l.fn.text);
  part : IsPatternPart l.rest;
  fits : length l.rest ≤ MOST_PIECES;
}

abbrev pub decreases-back : goal.decreases-back
decreases-back g l = length l.rest
