use Rattle.std.proofs.Common.{sym, ◌∙◌, length, arith, ◌-◌, length-take-le}
use Rattle.wildcard_lang.specs.declared.piece.Piece.TheVariants.{One}
use Rattle.wildcard_lang.proofs.Ends.{last_split, last_left, last_refused, last_untaken}
use Rattle.wildcard_lang.proofs.PatternParts.{part_front, last_found}
use Rattle.wildcard_lang.proofs.matching.matches_pieces.Goals as goal

pub returns-in_default-last_item : goal.returns-in_default-last_item
returns-in_default-last_item g c =
    last_untaken g.X.Taken.taken _ _ _ _ _ (last_split _ _ c.in-len1-up.len_at_least) (sym c.is_many.ensures ∙ c.if-is_many.false) c.in_default-last_item.ensures.none c.back.invariant.same

pub returns-then-not-is_taken : goal.returns-then-not-is_taken
returns-then-not-is_taken g c =
    last_refused g.X.Taken.taken _ _ _ _ _ _ _ (last_split _ _ c.in-len1-up.len_at_least) (sym c.is_many.ensures ∙ c.if-is_many.false) c.in-Some.ensures.split (sym c.is_taken.ensures ∙ c.if-not-is_taken.true) c.back.invariant.same

pub matches_front-requires-clause-last : goal.matches_front-requires-clause-last
matches_front-requires-clause-last g c = last_found _ _ _ (last_split _ _ c.in-len1-up.len_at_least) (sym c.is_many.ensures ∙ c.if-is_many.true)

pub back-preserved : goal.back-preserved
back-preserved g c = record {
  same = last_left g.X.Taken.taken _ _ _ _ _ _ _ (last_split _ _ c.in-len1-up.len_at_least) (sym c.is_many.ensures ∙ c.if-is_many.false) c.in-Some.ensures.split (sym c.is_taken.ensures ∙ c.if-not-is_taken.false) c.back.invariant.same;
  part = part_front _ _ _ (last_split _ One c.in-len1-up.len_at_least) c.back.invariant.part;
  fits = omega (arith, c.back.invariant.fits, length-take-le (length c.back.rest.now - 1) c.back.rest.now (omega arith));
}
