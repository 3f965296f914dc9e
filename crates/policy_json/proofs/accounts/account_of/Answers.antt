-- The search finds this unasked; asked for here, an id that isn't read as an account is refused without a longer one.
use Rattle.std.proofs.Common.{rules}
use Rattle.policy_json.proofs.accounts.account_of.Goals as goal

pub returns-else-is_account_text : goal.returns-else-is_account_text
returns-else-is_account_text c = search rules
