-- The entries of a principal element that passes its checks are sound.
use Rattle.std.proofs.Common.{◌≡◌, ◌≤◌, ℕ, List, [], ◌∷◌, ◌++◌, length, Bool, true, false, if◌then◌else◌, Option, Some, None, All as Each, refl, ◌∙◌, sym}
use Rattle.std.proofs.lemmas.Bool.{leb-true}
use Rattle.std.proofs.lemmas.List.Elements.{All-append, All-cons, All-head, All-map, All-nil, All-tail}
use Rattle.std.specs.List.{flat_map}
use Rattle.serde_json.specs.Data.{Data}
use Rattle.wildcard_lang.specs.declared.pattern.TheConstants.{MOST_PIECES}
use Rattle.policy_model.specs.declared.principal.PrincipalKind.{PrincipalKind}
use Rattle.policy_model.specs.declared.principal.PrincipalKind.TheVariants.{Aws, Service, Federated, CanonicalUser}
use Rattle.policy_model.specs.declared.principal.Entry.{Entry}
use Rattle.policy_model.specs.declared.principal.Entry.TheVariants.{All, Kind, Exact}
use Rattle.policy_model.specs.Soundness.{EntryIsSound, IsAccount}
use Rattle.policy_json.specs.declared.fault.PolicyFault.{PolicyFault}
use Rattle.policy_json.specs.declared.location.Location.{Location}
use Rattle.json_shapes.specs.Checks.{first_fault}
use Rattle.policy_json.specs.Checks.{PolicyCheck}
use Rattle.json_shapes.specs.Json.{one_or_more, pairs_in, text_of}
use Rattle.json_shapes.specs.Shapes.{is_object}
use Rattle.policy_json.specs.Principals.{account_of, account_or_exact, entries_of, entries_of_kind, entry_of, id_checks, is_star_id, kind_checks, kind_of, principal_checks}
use Rattle.json_shapes.proofs.Laws.{first_fault-rest, front_passes, front_passes-none}
use Rattle.policy_json.proofs.Roots.{account_of-is}

-- ---- checks without a fault

front_step : (b : Bool) (own : PolicyFault) (front more : Option PolicyFault) → (more ≡ None → front ≡ None) → (if b then more else Some own) ≡ None → (if b then front else Some own) ≡ None
front_step true own front more step e = step e
front_step false own front more step e = e

pub none-front : (front rest : List PolicyCheck) → first_fault (front ++ rest) ≡ None → first_fault front ≡ None
none-front [] rest e = refl
none-front (c ∷ cs) rest e = front_step c.passes c.fault (first_fault cs) (first_fault (cs ++ rest)) (none-front cs rest) e

pub none-rest : (front rest : List PolicyCheck) → first_fault (front ++ rest) ≡ None → first_fault rest ≡ None
none-rest front rest e = sym (first_fault-rest front rest (none-front front rest e)) ∙ e

abbrev pub behind : List PolicyCheck → List PolicyCheck
behind [] = []
behind (c ∷ cs) = cs

pub none-behind : (checks : List PolicyCheck) → first_fault checks ≡ None → first_fault (behind checks) ≡ None
none-behind [] e = refl
none-behind (c ∷ cs) e = none-rest (c ∷ []) cs e

-- the second check is passed, and the third
pub second_of : (checks : List PolicyCheck) → first_fault checks ≡ None → front_passes (behind checks) ≡ true
second_of checks e = front_passes-none (behind checks) (none-behind checks e)

pub third_of : (checks : List PolicyCheck) → first_fault checks ≡ None → front_passes (behind (behind checks)) ≡ true
third_of checks e = second_of (behind checks) (none-behind checks e)

-- what follows from each member's checks holds of all members
pub each_sound : {A : Type 0} (checks : A → List PolicyCheck) (P : A → Type 0) → ((a : A) → first_fault (checks a) ≡ None → P a) → (all : List A) → first_fault (flat_map checks all) ≡ None → Each P all
each_sound checks P sound [] e = All-nil P
each_sound checks P sound (a ∷ all) e =
    All-cons P a all (sound a (none-front (checks a) (flat_map checks all) e)) (each_sound checks P sound all (none-rest (checks a) (flat_map checks all) e))

pub each_flat : {A X : Type 0} (f : A → List X) (P : X → Type 0) → (all : List A) → Each (λ a. Each P (f a)) all → Each P (flat_map f all)
each_flat f P [] h = All-nil P
each_flat f P (a ∷ all) h = All-append P (f a) (flat_map f all) (All-head (λ x. Each P (f x)) a all h) (each_flat f P all (All-tail (λ x. Each P (f x)) a all h))

-- ---- entries

either_sound : (b : Bool) (x y : Entry) → EntryIsSound x → EntryIsSound y → EntryIsSound (if b then x else y)
either_sound true x y h k = h
either_sound false x y h k = k

account_sound : (id : List ℕ) (o : Option (List ℕ)) → ((account : List ℕ) → o ≡ Some account → IsAccount account) → length id ≤ MOST_PIECES → EntryIsSound (account_or_exact id o)
account_sound id None is short = short
account_sound id (Some account) is short = is account refl

entry_sound : (kind : PrincipalKind) (id : List ℕ) → length id ≤ MOST_PIECES → EntryIsSound (entry_of kind id)
entry_sound Aws id short = either_sound (is_star_id id) All (account_or_exact id (account_of id)) tt (account_sound id (account_of id) (account_of-is id) short)
entry_sound Service id short = either_sound (is_star_id id) (Kind Service) (Exact Service id) tt short
entry_sound Federated id short = either_sound (is_star_id id) (Kind Federated) (Exact Federated id) tt short
entry_sound CanonicalUser id short = either_sound (is_star_id id) (Kind CanonicalUser) (Exact CanonicalUser id) tt short

id_sound : (location : Location) (name : List ℕ) (kind : PrincipalKind) (d : Data) → first_fault (id_checks location name d) ≡ None → EntryIsSound (entry_of kind (text_of d))
id_sound location name kind d e = entry_sound kind (text_of d) (leb-true (length (text_of d)) MOST_PIECES (third_of (id_checks location name d) e))

pub second_passes : (a b : Bool) (x y : PolicyFault) (rest : Option PolicyFault) → (if a then (if b then rest else Some y) else Some x) ≡ None → rest ≡ None
second_passes true true x y rest e = e
second_passes true false x y rest e = cc
second_passes false b x y rest e = cc

pub first_passes : (a : Bool) (x : PolicyFault) (rest : Option PolicyFault) → (if a then rest else Some x) ≡ None → rest ≡ None
first_passes true x rest e = e
first_passes false x rest e = cc

-- ---- what holds of the entry of each id that passes its checks

module _ (P : Entry → Type 0) (location : Location) (name : List ℕ) (of_id : (kind : PrincipalKind) (d : Data) → first_fault (id_checks location name d) ≡ None → P (entry_of kind (text_of d))) where
  kind_each : (pair : List ℕ × Data) → first_fault (kind_checks location name pair) ≡ None → Each P (entries_of_kind pair)
  kind_each pair e =
      let passed : first_fault (flat_map (id_checks location name) (one_or_more pair.1)) ≡ None = second_passes _ _ _ _ _ e in
      All-map P (λ (d : Data). entry_of (kind_of pair.0) (text_of d)) (one_or_more pair.1) (each_sound (id_checks location name) (λ d. P (entry_of (kind_of pair.0) (text_of d))) (of_id (kind_of pair.0)) (one_or_more pair.1) passed)

  either_each : (b : Bool) (xs ys : List Entry) → Each P xs → Each P ys → Each P (if b then xs else ys)
  either_each true xs ys h k = h
  either_each false xs ys h k = k

  -- holds of the entries of an element that passes its checks
  pub entries_each : P All → (d : Data) → first_fault (principal_checks location name (Some d)) ≡ None → Each P (entries_of d)
  entries_each every d e =
      let passed : first_fault (flat_map (kind_checks location name) (pairs_in d)) ≡ None = first_passes _ _ _ e in
      let each = each_sound (kind_checks location name) (λ pair. Each P (entries_of_kind pair)) kind_each (pairs_in d) passed in
      either_each (is_object d) (flat_map entries_of_kind (pairs_in d)) (All ∷ []) (each_flat entries_of_kind P (pairs_in d) each) (All-cons P All [] every (All-nil P))

-- the entries of an element that passes its checks
pub entries_sound : (location : Location) (name : List ℕ) (d : Data) → first_fault (principal_checks location name (Some d)) ≡ None → Each EntryIsSound (entries_of d)
entries_sound location name d e = entries_each EntryIsSound location name (id_sound location name) tt d e
