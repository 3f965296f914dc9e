use Rattle.wildcard_lang.proofs.Stepping.{steps-led}
use Rattle.wildcard_lang.proofs.places.steps_are_led.Goals as goal

pub returns : goal.returns
returns c = steps-led
