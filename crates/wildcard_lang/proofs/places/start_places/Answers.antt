use Rattle.std.proofs.Common.{◌∙◌}
use Rattle.wildcard_lang.proofs.Accept.{start_answer}
use Rattle.wildcard_lang.proofs.places.start_places.Goals as goal

pub returns : goal.returns
returns c = start_answer _ _ _ c.as_slice.ensures.value (c.start.auto.places ∙ c.requires) c.start.ensures
