use Rattle.std.proofs.Common.{◌≡◌, true, length}
use Rattle.wildcard_lang.specs.declared.piece.Piece.TheVariants.{One}
use Rattle.wildcard_lang.specs.Matching.{is_many}
use Rattle.wildcard_lang.specs.Runs.{last_or}
use Rattle.wildcard_lang.specs.Accepts.{accepts_by}
use Rattle.wildcard_lang.specs.Patterns.{IsPatternPart}
use Rattle.wildcard_lang.proofs.matching.matches_front.Given as goal

abbrev pub invariant-front : goal.invariant-front
invariant-front g l = record {
  same : accepts_by g.X.Taken.taken l.rest (g.S.Source.left l.left) ≡ accepts_by g.X.Taken.taken l.pieces (g.S.Source.left l.fn.text);
  part : IsPatternPart l.rest;
  last : is_many (last_or One l.rest) ≡ true;
}

abbrev pub decreases-front : goal.decreases-front
decreases-front g l = length l.rest
