-- The search finds this unasked; asked for here, a wrong body is refused without a longer search.
use Rattle.std.proofs.Common.{rules}
use Rattle.formula_tree.proofs.looks.pick_in.Goals as goal

pub returns-in-Waits : goal.returns-in-Waits
returns-in-Waits c = search rules
