use Rattle.formula_tree.proofs.Running.{stays_unmet}
use Rattle.formula_tree.proofs.runs.unmet_stays_unmet.Goals as goal

pub returns : goal.returns
returns g c = λ tree few many end n m inside unmet run. stays_unmet (g.P.Possible.possible c.args.possible.now) tree (g.met.P.Extensible.harder c.args.possible.now) (g.met.P.Extensible.goes_on c.args.possible.now) few many end n m inside unmet run
