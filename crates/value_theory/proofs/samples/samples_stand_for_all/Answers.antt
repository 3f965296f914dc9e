use Rattle.value_theory.proofs.Points.{samples_stand_for_all}
use Rattle.value_theory.proofs.samples.samples_stand_for_all.Goals as goal

pub returns : goal.returns
returns c = samples_stand_for_all
