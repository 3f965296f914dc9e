-- An id is read as an account exactly where it is twelve digits or the ARN of the account's root.
use Rattle.std.proofs.Common.{◌≡◌, ℕ, List, ◌++◌, ◌∷◌, Bool, true, false, Option, Some, refl, ap, sym, ◌∙◌, codes, if◌then◌else◌}
use Rattle.policy_json.specs.Laws.{StandsForAccount, by_digits, by_root}
use Rattle.policy_json.specs.Principals.{account_of, is_account, root_account}
use Rattle.policy_json.proofs.Roots.{is_account-is, is_account-of, root_account-is, root_account-of}

either-is : (b : Bool) (account id : List ℕ) → is_account id ≡ b → (if b then Some id else root_account id) ≡ Some account → StandsForAccount account id
either-is true account id digits e = let same : id ≡ account = cc in by_digits (is_account-is account (ap is_account (sym same) ∙ digits)) same
either-is false account id digits e = by_root (root_account-is account id e)

pub read-stands : (account id : List ℕ) → account_of id ≡ Some account → StandsForAccount account id
read-stands account id e = either-is (is_account id) account id refl e

-- the text doesn't begin with a digit
root-no-digits : (rest : List ℕ) → is_account (codes "arn:" ++ rest) ≡ false
root-no-digits rest = refl

else_is : (b : Bool) (x : List ℕ) (o : Option (List ℕ)) → b ≡ false → (if b then Some x else o) ≡ o
else_is false x o e = refl
else_is true x o e = absurd (cc)

then_is : (b : Bool) (x : List ℕ) (o : Option (List ℕ)) → b ≡ true → (if b then Some x else o) ≡ Some x
then_is true x o e = refl
then_is false x o e = absurd (cc)

pub stands-read : (account id : List ℕ) → StandsForAccount account id → account_of id ≡ Some account
stands-read account id (by_digits is same) = then_is (is_account id) id (root_account id) (ap is_account same ∙ is_account-of account is) ∙ ap Some same
stands-read account id (by_root root) = else_is (is_account id) id (root_account id) (ap is_account root.is ∙ root-no-digits (root.partition ++ 58 ∷ (codes "iam::" ++ (account ++ codes ":root")))) ∙ root_account-of account id root
