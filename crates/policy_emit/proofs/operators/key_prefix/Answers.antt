-- The search finds this unasked; asked for here, a wrong body is refused without a longer search.
use Rattle.std.proofs.Common.{rules}
use Rattle.policy_emit.proofs.operators.key_prefix.Goals as goal

pub returns-then-has_several : goal.returns-then-has_several
returns-then-has_several c = search rules
