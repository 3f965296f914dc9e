-- The search finds this unasked; asked for here, a wrong body is refused without a longer search.
use Rattle.std.proofs.Common.{rules}
use Rattle.policy_load.proofs.Names.{three_more}
use Rattle.policy_load.proofs.keys.push_digits.Goals as goal

pub returns : goal.returns
returns c = search (rules, three_more)
