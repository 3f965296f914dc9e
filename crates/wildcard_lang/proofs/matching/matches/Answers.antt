use Rattle.wildcard_lang.proofs.Fronts.{answer_matches}
use Rattle.wildcard_lang.proofs.matching.matches.Goals as goal

pub returns : goal.returns
returns c = answer_matches _ c.args.pattern.now _ c.args.text.now _ c.as_slice.ensures.value c.as_slice-2.ensures.value c.matches_pieces.ensures
