use Rattle.formula_tree.proofs.Keeping.{keeps-yes, keeps-no}
use Rattle.formula_tree.proofs.value.longer_paths_keep_values.Goals as goal

pub returns : goal.returns
returns c = record { yes = keeps-yes; no = keeps-no }
