-- Principal elements (IAM JSON policy reference, Principal and NotPrincipal).
use Rattle.std.specs.Prelude.{⊤, ◌≡◌, ◌≢◌, ℕ, List, [], ◌∷◌, ◌++◌, length, map, take, drop, Bool, false, ◌&&◌, ◌||◌, ◌==◌, not, nat_le, Option, Some, None, Result, option_and_then, if◌then◌else◌, codes}
use Rattle.std.specs.List.{flat_map, list_any, list_all}
use Rattle.std.specs.Char.{is_ascii_digit}
use Rattle.std.specs.Str.{bytes_eq}
use Rattle.serde_json.specs.Data.{Data}
use Rattle.policy_model.specs.declared.principal.PrincipalKind.{PrincipalKind}
use Rattle.policy_model.specs.declared.principal.PrincipalKind.TheVariants.{Aws, Service, Federated, CanonicalUser}
use Rattle.policy_model.specs.declared.principal.Entry.{Entry}
use Rattle.policy_model.specs.declared.principal.Entry.TheVariants.{All, Kind, Account, Exact}
use Rattle.wildcard_lang.specs.declared.pattern.TheConstants.{MOST_PIECES}
use Rattle.policy_model.specs.declared.principal.TheConstants.{ACCOUNT_DIGITS}
use Rattle.policy_model.specs.Principals.{after_colon, after_prefix, has_colon}
use Rattle.policy_model.specs.Soundness.{IsAccount}
use Rattle.policy_json.specs.declared.fault.PolicyCode.TheVariants.{P4WrongShape, P9PrincipalKind, P10PrincipalWildcard, P17Limit}
use Rattle.policy_json.specs.declared.location.Location.{Location}
use Rattle.policy_json.specs.Checks.{PolicyCheck, check, PolicyAnswer}
use Rattle.json_shapes.specs.Json.{one_or_more, pairs_in, text_of}
use Rattle.json_shapes.specs.Shapes.{are_strings, is_among, is_object, is_text}
use Rattle.json_shapes.specs.Checks.{IsReadOf}

-- ---- what is checked

-- the names of the kinds
abbrev pub kind_names : List (List ℕ)
kind_names = codes "AWS" ∷ codes "CanonicalUser" ∷ codes "Federated" ∷ codes "Service" ∷ []

-- a wildcard stands in the text
abbrev pub has_wildcard : List ℕ → Bool
has_wildcard text = list_any (λ c. (c == 42) || (c == 63)) text

-- the text is `*` alone
abbrev pub is_star_id : List ℕ → Bool
is_star_id text = bytes_eq text (codes "*")

-- an id isn't empty, has no wildcard unless it is `*` alone, and has at most as many characters as a pattern has pieces
abbrev pub id_checks : Location → List ℕ → Data → List PolicyCheck
id_checks location name d =
    check location (not (nat_le (length (text_of d)) 0)) P4WrongShape name ∷
    check location (is_star_id (text_of d) || not (has_wildcard (text_of d))) P10PrincipalWildcard name ∷
    check location (nat_le (length (text_of d)) MOST_PIECES) P17Limit name ∷ []

-- a member of a principal element has the name of a kind, its value is a string or a list of strings, and each is an id
abbrev pub kind_checks : Location → List ℕ → List ℕ × Data → List PolicyCheck
kind_checks location name pair =
    check location (is_among kind_names pair.0) P9PrincipalKind pair.0 ∷
    check location (are_strings pair.1) P4WrongShape name ∷
    flat_map (id_checks location name) (one_or_more pair.1)

-- a principal element, where it is there, is the string `*` or an object, whose members are checked in the order of their names
abbrev pub principal_checks : Location → List ℕ → Option Data → List PolicyCheck
principal_checks location name None = []
principal_checks location name (Some d) =
    check location (is_text (codes "*") d || is_object d) P4WrongShape name ∷ flat_map (kind_checks location name) (pairs_in d)

-- ---- what it stands for

-- the id is the ARN of an account's root: `arn:`, a partition that isn't empty and has no colon, `:iam::`, the account and
-- `:root`
pub record IsRootOf (account id : List ℕ) : Type 0 where
  pub account_is : IsAccount account
  pub partition : List ℕ
  pub nonempty : partition ≢ []
  pub plain : has_colon partition ≡ false
  pub is : id ≡ codes "arn:" ++ (partition ++ 58 ∷ (codes "iam::" ++ (account ++ codes ":root")))

-- the text is twelve digits
abbrev pub is_account : List ℕ → Bool
is_account text = list_all is_ascii_digit text && (length text == ACCOUNT_DIGITS)

-- the account at the front of a text that is `:root` behind it
abbrev pub account_before_root : List ℕ → Option (List ℕ)
account_before_root text =
    (if is_account (take ACCOUNT_DIGITS text) && bytes_eq (drop ACCOUNT_DIGITS text) (codes ":root") then Some (take ACCOUNT_DIGITS text) else None)

-- the text, where it isn't empty and doesn't begin with a colon
abbrev pub nonempty_part : List ℕ → Option (List ℕ)
nonempty_part [] = None
nonempty_part (c ∷ cs) = (if c == 58 then None else Some (c ∷ cs))

-- the account whose root the id is
abbrev pub root_account : List ℕ → Option (List ℕ)
root_account id =
    option_and_then account_before_root (option_and_then (after_prefix (codes "iam::"))
    (option_and_then after_colon (option_and_then nonempty_part (after_prefix (codes "arn:") id))))

-- the account that an id stands for: twelve digits, or the ARN of its root
abbrev pub account_of : List ℕ → Option (List ℕ)
account_of id = (if is_account id then Some id else root_account id)

-- the entry of an `AWS` id that isn't `*`
abbrev pub account_or_exact : List ℕ → Option (List ℕ) → Entry
account_or_exact id (Some account) = Account account
account_or_exact id None = Exact Aws id

-- the entry of an id under a kind: under `AWS` a `*` is every principal, and an account's id is the account
abbrev pub entry_of : PrincipalKind → List ℕ → Entry
entry_of Aws id = (if is_star_id id then All else account_or_exact id (account_of id))
entry_of Service id = (if is_star_id id then Kind Service else Exact Service id)
entry_of Federated id = (if is_star_id id then Kind Federated else Exact Federated id)
entry_of CanonicalUser id = (if is_star_id id then Kind CanonicalUser else Exact CanonicalUser id)

-- the kind of a name (of any other name, which no check passes, the last one)
abbrev pub kind_of : List ℕ → PrincipalKind
kind_of name =
    (if bytes_eq name (codes "AWS") then Aws
    else (if bytes_eq name (codes "Service") then Service
    else (if bytes_eq name (codes "Federated") then Federated else CanonicalUser)))

-- the entries of ids under a kind
abbrev pub entries_at : PrincipalKind → List Data → List Entry
entries_at kind ids = map (λ id. entry_of kind (text_of id)) ids

-- the entries of one member of a principal element
abbrev pub entries_of_kind : List ℕ × Data → List Entry
entries_of_kind pair = entries_at (kind_of pair.0) (one_or_more pair.1)

-- they are added behind others
abbrev pub AddsKind : List Entry → List Entry → List ℕ × Data → Type 0
AddsKind before behind pair = behind ≡ before ++ entries_of_kind pair

-- the entries of a principal element: an object's, or every principal for the string `*`
abbrev pub entries_of : Data → List Entry
entries_of d = (if is_object d then flat_map entries_of_kind (pairs_in d) else All ∷ [])

-- what readers answer of an id, of a member of a principal element, of all its members, of the string `*`, and of a whole principal element
abbrev pub IsIdRead : Location → List ℕ → PrincipalKind → Data → Result Entry PolicyAnswer → Type 0
IsIdRead location name kind d = IsReadOf (id_checks location name d) (entry_of kind (text_of d))

abbrev pub IsKindRead : Location → List ℕ → List ℕ × Data → Result ⊤ PolicyAnswer → Type 0
IsKindRead location name pair = IsReadOf (kind_checks location name pair) tt

abbrev pub AreKindsRead : Location → List ℕ → List (List ℕ × Data) → Result (List Entry) PolicyAnswer → Type 0
AreKindsRead location name pairs = IsReadOf (flat_map (kind_checks location name) pairs) (flat_map entries_of_kind pairs)

abbrev pub IsStarRead : Location → List ℕ → Data → Result (List Entry) PolicyAnswer → Type 0
IsStarRead location name d = IsReadOf (check location (is_text (codes "*") d) P4WrongShape name ∷ []) (All ∷ [])

abbrev pub AreEntriesRead : Location → List ℕ → Data → Result (List Entry) PolicyAnswer → Type 0
AreEntriesRead location name d = IsReadOf (principal_checks location name (Some d)) (entries_of d)
