use Rattle.std.proofs.Common.{◌≡◌, true, length, get_or}
use Rattle.wildcard_lang.specs.declared.piece.Piece.TheVariants.{One}
use Rattle.wildcard_lang.specs.Matching.{is_many}
use Rattle.wildcard_lang.specs.Runs.{last_or}
use Rattle.wildcard_lang.specs.Accepts.{accepts_by}
use Rattle.wildcard_lang.specs.Patterns.{IsPatternPart}
use Rattle.wildcard_lang.proofs.matching.matches_runs.Given as goal

abbrev pub invariant-runs : goal.invariant-runs
invariant-runs g l = record {
  same : accepts_by g.X.Taken.taken l.rest (g.S.Source.left l.left) ≡ accepts_by g.X.Taken.taken l.pieces (g.S.Source.left l.fn.text);
  first : is_many (get_or l.rest 0 One) ≡ true;
  last : is_many (last_or One l.rest) ≡ true;
  part : IsPatternPart l.rest;
}

abbrev pub decreases-runs : goal.decreases-runs
decreases-runs g l = length l.rest
