use Rattle.policy_model.proofs.Accounts.{account_test-is, account_test-of}
use Rattle.std.proofs.Common.{◌≡◌, sym, ◌∙◌}
use Rattle.policy_model.specs.Principals.{account_test}
use Rattle.policy_model.proofs.principal.is_of_account.Goals as goal

pub returns : goal.returns
returns c =
    let computed : c.account_test.result ≡ account_test c.args.account.now c.args.id.now = cc in
    (λ e. account_test-is c.args.account.now c.args.id.now (sym computed ∙ e), λ h. computed ∙ account_test-of c.args.account.now c.args.id.now h)
