use Rattle.formula_tree.proofs.Running.{few_fit}
use Rattle.formula_tree.proofs.runs.few_tests_need_few_splits.Goals as goal

pub returns : goal.returns
returns g c = λ tree t splits below few more. few_fit (g.P.Possible.possible c.args.possible.now) tree t below splits few more
