-- The search finds this unasked; asked for here, a wrong body is refused without a longer search.
use Rattle.std.proofs.Common.{rules}
use Rattle.formula_tree.proofs.path.Path.answer.Goals as goal

pub returns-in-None : goal.returns-in-None
returns-in-None c = search rules
