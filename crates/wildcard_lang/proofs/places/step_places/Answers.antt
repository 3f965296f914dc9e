use Rattle.std.proofs.Common.{◌∙◌}
use Rattle.wildcard_lang.proofs.Accept.{step_answer}
use Rattle.wildcard_lang.proofs.places.step_places.Goals as goal

pub returns : goal.returns
returns c = step_answer _ _ _ _ _ c.as_slice.ensures.value (c.step.auto.places ∙ c.requires) c.step.ensures
