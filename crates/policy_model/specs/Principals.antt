-- Which principals an entry names (IAM JSON policy reference, Principal).
use Rattle.std.specs.Prelude.{◌≡◌, ⊤, ℕ, List, [], ◌∷◌, ◌++◌, Bool, false, ◌==◌, Option, Some, None, codes, if◌then◌else◌, option_and_then}
use Rattle.std.specs.List.{list_any}
use Rattle.policy_model.specs.declared.principal.PrincipalKind.{PrincipalKind}
use Rattle.policy_model.specs.declared.principal.PrincipalKind.TheVariants.{Aws, Service, Federated, CanonicalUser}
use Rattle.policy_model.specs.declared.principal.Entry.{Entry}
use Rattle.policy_model.specs.declared.principal.Entry.TheVariants.{All, Kind, Account, Exact}
use Rattle.policy_model.specs.declared.request.Request.{Request}

-- the name of a kind of principals in a policy and in a request
abbrev pub kind_word : PrincipalKind → List ℕ
kind_word Aws = codes "AWS"
kind_word Service = codes "Service"
kind_word Federated = codes "Federated"
kind_word CanonicalUser = codes "CanonicalUser"

-- whether a colon stands in the text
abbrev pub has_colon : List ℕ → Bool
has_colon t = list_any (λ c. c == 58) t

-- the id is an ARN of the account: `arn:`, a partition, a service and a region without colons, the account, and anything
pub record IsOfAccount (account id : List ℕ) : Type 0 where
  pub partition : List ℕ
  pub service : List ℕ
  pub region : List ℕ
  pub rest : List ℕ
  pub plain_partition : has_colon partition ≡ false
  pub plain_service : has_colon service ≡ false
  pub plain_region : has_colon region ≡ false
  pub is : id ≡ codes "arn:" ++ (partition ++ 58 ∷ (service ++ 58 ∷ (region ++ 58 ∷ (account ++ 58 ∷ rest))))

-- no id is an ARN of both accounts
abbrev pub SharesNoId : List ℕ → List ℕ → Type 0
SharesNoId one other = (id : List ℕ) → IsOfAccount one id → ¬ IsOfAccount other id

-- the principal of this kind and id is one of the entry
abbrev pub EntryNames : PrincipalKind → List ℕ → Entry → Type 0
EntryNames k t All = ⊤
EntryNames k t (Kind kind) = k ≡ kind
EntryNames k t (Account account) = (k ≡ Aws) × IsOfAccount account t
EntryNames k t (Exact kind id) = (k ≡ kind) × (t ≡ id)

-- the request's principal is one of the entry
abbrev pub EntryHolds : Request → Entry → Type 0
EntryHolds r entry = EntryNames r.kind r.id entry

-- no principal is one of both entries
abbrev pub SharesNoPrincipal : Entry → Entry → Type 0
SharesNoPrincipal one other = (kind : PrincipalKind) (id : List ℕ) → EntryNames kind id one → ¬ EntryNames kind id other

-- what follows the first colon
abbrev pub after_colon : List ℕ → Option (List ℕ)
after_colon [] = None
after_colon (c ∷ t) = if c == 58 then Some t else after_colon t

-- what follows the prefix
abbrev pub after_prefix : List ℕ → List ℕ → Option (List ℕ)
after_prefix [] t = Some t
after_prefix (p ∷ ps) [] = None
after_prefix (p ∷ ps) (c ∷ t) = if c == p then after_prefix ps t else None

abbrev pub begins_colon : Option (List ℕ) → Bool
begins_colon None = false
begins_colon (Some []) = false
begins_colon (Some (c ∷ t)) = c == 58

-- a test that computes whether the id is an ARN of the account
abbrev pub account_test : List ℕ → List ℕ → Bool
account_test account id = begins_colon (option_and_then (after_prefix account) (option_and_then after_colon (option_and_then after_colon (option_and_then after_colon (after_prefix (codes "arn:") id)))))
