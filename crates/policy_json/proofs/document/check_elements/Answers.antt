-- The search finds this unasked; asked for here, a wrong body is refused without a longer search.
use Rattle.std.proofs.Common.{rules}
use Rattle.policy_json.proofs.document.check_elements.Goals as goal

pub returns-in_err-require-2 : goal.returns-in_err-require-2
returns-in_err-require-2 c = search rules
