use Rattle.wildcard_lang.proofs.Stepping.{step_lists-of}
use Rattle.wildcard_lang.proofs.places.steps_follow_texts.Goals as goal

pub returns : goal.returns
returns c = step_lists-of
