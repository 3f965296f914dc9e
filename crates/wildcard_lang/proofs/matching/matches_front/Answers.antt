use Rattle.std.proofs.Common.{sym, ◌∙◌}
use Rattle.wildcard_lang.specs.declared.piece.Piece.TheVariants.{One}
use Rattle.wildcard_lang.proofs.Ends.{first_split, first_left}
use Rattle.wildcard_lang.proofs.PatternParts.{part_left, last_kept}
use Rattle.wildcard_lang.proofs.matching.matches_front.Goals as goal

pub front-preserved : goal.front-preserved
front-preserved g c = record {
  same = first_left g.X.Taken.taken _ _ _ _ _ _ _ (first_split _ _ c.in-len1-up.len_at_least) (sym c.is_many.ensures ∙ c.if-is_many.false) c.in-Some.ensures.split (sym c.is_taken.ensures ∙ c.if-not-is_taken.false) c.front.invariant.same;
  part = part_left _ _ _ (first_split _ One c.in-len1-up.len_at_least) c.front.invariant.part;
  last = last_kept _ _ _ (first_split _ _ c.in-len1-up.len_at_least) (sym c.is_many.ensures ∙ c.if-is_many.false) c.front.invariant.last;
}
