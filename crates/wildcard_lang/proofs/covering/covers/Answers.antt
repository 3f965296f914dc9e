use Rattle.wildcard_lang.proofs.Covered.{answer_covers}
use Rattle.wildcard_lang.proofs.covering.covers.Goals as goal

pub returns : goal.returns
returns c = answer_covers _ c.args.pattern.now c.args.other.now _ _ c.as_slice.ensures.value c.as_slice-2.ensures.value c.covers_pieces.ensures
