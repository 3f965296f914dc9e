use Rattle.policy_json.proofs.Roots.{is_account-test}
use Rattle.policy_json.proofs.accounts.is_account_text.Goals as goal

pub returns : goal.returns
returns c = is_account-test c.is_account.result c.args.text.now c.is_account.ensures.0 c.is_account.ensures.1
