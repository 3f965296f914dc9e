use Rattle.std.proofs.Common.{sym, subst}
use Rattle.wildcard_lang.specs.Text.{IsText}
use Rattle.policy_json.proofs.Roots.{account_of-is, account-text}
use Rattle.policy_json.proofs.principals.account_or_exact.Goals as goal

pub from_chars-account-requires : goal.from_chars-account-requires
from_chars-account-requires c =
    let is = account_of-is c.as_slice.result.now c.in-Some.account.now (sym c.in-Some.ensures) in
    subst IsText (sym c.in_ok-from_slice-in-Some.ensures.items) (account-text c.in-Some.account.now is)
