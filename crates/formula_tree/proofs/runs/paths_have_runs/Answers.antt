use Rattle.std.proofs.Common.{refl}
use Rattle.formula_tree.specs.Runs.{unanswered_count}
use Rattle.formula_tree.proofs.Running.{some-run}
use Rattle.formula_tree.proofs.runs.paths_have_runs.Goals as goal

pub returns : goal.returns
returns g c = λ tree t path below none. some-run (g.P.Possible.possible c.args.possible.now) tree t below (unanswered_count path t) path refl none
