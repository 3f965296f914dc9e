use Rattle.wildcard_lang.specs.Matching.{Matches}
use Rattle.wildcard_lang.proofs.Laws.{Decides-accepts}
use Rattle.request_json.proofs.Permitting.{told}
use Rattle.request_json.proofs.words.fits_shape.Goals as goal

pub returns-in-Some : goal.returns-in-Some
returns-in-Some c =
    rw c.in-Some.is (told (Matches c.in-Some.pattern c.args.text.now) _ _ (Decides-accepts c.in-Some.pattern c.args.text.now) c.matches.ensures.0 c.matches.ensures.1)
