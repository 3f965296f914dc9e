-- The search finds this unasked; asked for here, a wrong body is refused without a longer search.
use Rattle.std.proofs.Common.{rules}
use Rattle.formula_tree.proofs.looks.look_of_both.Goals as goal

pub returns-in-Waits-default : goal.returns-in-Waits-default
returns-in-Waits-default c = search rules
