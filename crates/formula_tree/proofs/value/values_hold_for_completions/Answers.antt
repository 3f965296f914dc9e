use Rattle.formula_tree.proofs.Keeping.{says-yes, says-no}
use Rattle.formula_tree.proofs.value.values_hold_for_completions.Goals as goal

pub returns : goal.returns
returns c = record { yes = says-yes; no = says-no }
