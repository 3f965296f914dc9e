use Rattle.formula_tree.proofs.Running.{same_run}
use Rattle.formula_tree.proofs.runs.runs_are_determined.Goals as goal

pub returns : goal.returns
returns g c = λ tree path first second n m. same_run (g.P.Possible.possible c.args.possible.now) tree path first second n m
