-- The constants of this crate as plain numbers.
use Rattle.std.specs.Prelude.{◌≡◌}
use Rattle.policy_model.specs.declared.principal.TheConstants.{ACCOUNT_DIGITS}

-- the account of an AWS principal has twelve digits
abbrev pub AccountsHaveTwelveDigits : Type 0
AccountsHaveTwelveDigits = ACCOUNT_DIGITS ≡ 12
