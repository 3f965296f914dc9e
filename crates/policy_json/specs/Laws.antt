-- What is read of ids, in the words of the standard.
use Rattle.std.specs.Prelude.{◌≡◌, ◌↔◌, ℕ, List, Some}
use Rattle.policy_model.specs.Soundness.{IsAccount}
use Rattle.policy_json.specs.Principals.{IsRootOf, account_of}

-- the id is the account's twelve digits, or the ARN of its root
pub data StandsForAccount (account id : List ℕ) : Type 0 where
  by_digits : IsAccount account → id ≡ account → StandsForAccount account id
  by_root : IsRootOf account id → StandsForAccount account id

-- an id is read as an account exactly where it stands for it
abbrev pub AccountsAreRead : Type 0
AccountsAreRead = (account id : List ℕ) → (account_of id ≡ Some account) ↔ StandsForAccount account id
