use Rattle.wildcard_lang.proofs.Forms.{glob_matches}
use Rattle.wildcard_lang.proofs.meanings.glob_matches_its_form.Goals as goal

pub returns : goal.returns
returns c = glob_matches
