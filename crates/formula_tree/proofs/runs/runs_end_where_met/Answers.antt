use Rattle.std.proofs.Common.{true, refl}
use Rattle.formula_tree.proofs.Running.{found}
use Rattle.formula_tree.proofs.runs.runs_end_where_met.Goals as goal

pub returns : goal.returns
returns g c = λ tree path n run. found (g.P.Possible.possible c.args.possible.now) tree path true n run refl
