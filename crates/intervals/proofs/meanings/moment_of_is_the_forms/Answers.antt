use Rattle.intervals.proofs.MomentForms.{moment_forth, moment_back}
use Rattle.intervals.proofs.meanings.moment_of_is_the_forms.Goals as goal

pub returns : goal.returns
returns c = λ text units. (moment_back text units, moment_forth text units)
