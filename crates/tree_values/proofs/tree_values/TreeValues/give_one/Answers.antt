use Rattle.tree_values.proofs.Giving.{given-set}
use Rattle.tree_values.proofs.tree_values.TreeValues.give_one.Goals as goal

pub returns-clause-given : goal.returns-clause-given
returns-clause-given c = given-set c.args.self.now c.set.new.self c.args.path.now c.args.test c.answer.result c.answer.ensures c.set.ensures
