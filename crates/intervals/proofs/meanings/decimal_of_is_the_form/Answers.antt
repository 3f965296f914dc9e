use Rattle.intervals.proofs.DecimalForms.{decimal_forth, decimal_back}
use Rattle.intervals.proofs.meanings.decimal_of_is_the_form.Goals as goal

pub returns : goal.returns
returns c = λ text units. (decimal_back text units, decimal_forth text units)
