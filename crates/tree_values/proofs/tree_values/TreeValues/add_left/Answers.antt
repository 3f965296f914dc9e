use Rattle.std.proofs.Common.{sym, ◌∙◌}
use Rattle.tree_values.proofs.Leaving.{left-none, left-some}
use Rattle.tree_values.proofs.tree_values.TreeValues.add_left.Goals as goal

pub returns-in-Some : goal.returns-in-Some
returns-in-Some c = left-some c.push.result c.args.self.now.answers c.args.left.now c.push.new.self c.args.test c.args.answer _ (sym c.answer.ensures ∙ c.in-Some.is) c.push.ensures.ok

pub returns-in-None : goal.returns-in-None
returns-in-None c = left-none c.args.self.now.answers c.args.left.now c.args.test c.args.answer (sym c.answer.ensures ∙ c.in-None.is)
