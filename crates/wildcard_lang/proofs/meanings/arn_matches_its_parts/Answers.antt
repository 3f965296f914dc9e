use Rattle.wildcard_lang.proofs.Parts.{arn_matches}
use Rattle.wildcard_lang.proofs.meanings.arn_matches_its_parts.Goals as goal

pub returns : goal.returns
returns c = arn_matches
