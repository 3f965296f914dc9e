use Rattle.std.proofs.Common.{refl}
use Rattle.wildcard_lang.proofs.Fronts.{answer_matches}
use Rattle.wildcard_lang.proofs.matching.matches_str.Goals as goal

pub returns : goal.returns
returns c = answer_matches _ c.args.pattern.now _ _ _ c.as_slice.ensures.value refl c.matches_pieces.ensures
