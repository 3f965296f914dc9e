use Rattle.formula_tree.proofs.Running.{missed}
use Rattle.formula_tree.proofs.runs.runs_miss_none.Goals as goal

pub returns : goal.returns
returns g c = λ tree path end n met run. missed (g.P.Possible.possible c.args.possible.now) tree (g.met.P.Extensible.harder c.args.possible.now) (g.met.P.Extensible.goes_on c.args.possible.now) path end n met run
