use Rattle.wildcard_lang.proofs.Stepping.{places-matched}
use Rattle.wildcard_lang.proofs.places.places_are_matched.Goals as goal

pub returns : goal.returns
returns c = places-matched
