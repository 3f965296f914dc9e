-- The search finds this unasked; asked for here, a wrong body is refused without a longer search.
use Rattle.std.proofs.Common.{rules}
use Rattle.formula_tree.proofs.value.+look.Goals as goal

pub look_at_some-some-init : goal.look_at_some-some-init
look_at_some-some-init t c = search rules
