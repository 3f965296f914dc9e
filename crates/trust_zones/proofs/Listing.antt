-- What holds of a zone whose file has no fault.
use Rattle.std.proofs.Common.{◌≡◌, ◌≢◌, ◌≤◌, ◌<◌, ℕ, suc, ◌==◌, List, [], ◌∷◌, ◌++◌, length, Bool, true, false, not, ◌&&◌, ◌||◌, All as Each, Option, Some, None, chars, refl, subst, sym, arith, if◌then◌else◌}
use Rattle.std.specs.Prelude.{MatchOption, nat_le, Result, Ok, Err, IfOk}
use Rattle.std.specs.Char.{IsAsciiDigit, is_ascii_digit}
use Rattle.std.specs.List.{filter_map, list_all}
use Rattle.std.proofs.lemmas.Bool.Decides.{Decides-eqb, nat_tests}
use Rattle.std.proofs.lemmas.List.Elements.{All-map, All-weaker}
use Rattle.std.proofs.lemmas.Str.{chars-IsAscii}
use Rattle.std.proofs.lemmas.Str.Ascii.{IsAscii-from_all}
use Rattle.std.proofs.lemmas.List.Sums.{AllPass-from_list_all}
use Rattle.serde_json.specs.Data.{Data}
use Rattle.text_table.specs.Table.{item_at}
use Rattle.wildcard_lang.specs.declared.pattern.TheConstants.{MOST_PIECES}
use Rattle.cidr_bits.specs.Readings.{block_spelled}
use Rattle.policy_model.specs.declared.principal.TheConstants.{ACCOUNT_DIGITS}
use Rattle.policy_model.specs.declared.schema.KeyRule.{KeyRule}
use Rattle.policy_model.specs.declared.schema.Schema.{Schema}
use Rattle.policy_model.specs.declared.value.Kind.{Kind}
use Rattle.policy_model.specs.declared.value.Kind.TheVariants as kind
use Rattle.policy_model.specs.Soundness.{IsAccount}
use Rattle.json_shapes.specs.Checks.{Check, first_fault, IsReadOf}
use Rattle.json_shapes.specs.Shapes.{is_there_and, where_there}
use Rattle.trust_zones.specs.ZoneChecks.{ZoneCheck, zone_check, ZoneAnswer}
use Rattle.trust_zones.specs.ZoneFiles.{has_form_of, has_single_key, is_account_number, is_same_kind, is_short_name, is_single_of, is_zone_file, key_of, list_checks_in, list_name, members_of, texts_of, zone_checks, zone_list_checks, zone_of}
use Rattle.trust_zones.specs.ZoneKeys.{HasSingleKey, IsSingleOf, address_name, key_named, organization_name, vpc_name}
use Rattle.trust_zones.specs.Zones.{TakesZone, ZoneIsSound}
use Rattle.trust_zones.specs.declared.fault.ZoneCode.TheVariants.{Z2Shape, Z3BadValue, Z4KeyKind, Z5Limit}
use Rattle.trust_zones.specs.declared.list.TheConstants.{MOST_LISTED}
use Rattle.trust_zones.specs.declared.list.ZoneList.{ZoneList}
use Rattle.trust_zones.specs.declared.list.ZoneList.TheVariants.{Accounts, Blocks, Organizations, Vpcs}
use Rattle.trust_zones.specs.declared.zone.Zone.{Zone}
use Rattle.trust_zones.proofs.Files.{last-list, other-lists, text-lists}

-- ---- checks that are passed

both : (a b : Bool) → (a && b) ≡ true → (a ≡ true) × (b ≡ true)
both true b e = (refl, e)
both false b e = cc

first : {F : Type 0} (b : Bool) (own : F) (rest : Option F) → (if b then rest else Some own) ≡ None → (b ≡ true) × (rest ≡ None)
first true own rest e = (refl, e)
first false own rest e = cc

passed : {F : Type 0} (c : Check F) (cs : List (Check F)) → first_fault (c ∷ cs) ≡ None → (c.passes ≡ true) × (first_fault cs ≡ None)
passed c cs e = first c.passes c.fault (first_fault cs) e

-- the members of a list are of its form, its key is taken where it has a member, and so it is with what stands behind
record ListIsPassed (schema : Schema) (l : ZoneList) (members : List (List ℕ)) (rest : List ZoneCheck) : Type 0 where
  pub form : list_all (has_form_of l) members ≡ true
  pub key : (nat_le (length members) 0 || where_there (has_single_key schema) (key_of l)) ≡ true
  pub behind : first_fault rest ≡ None

list-passed : (schema : Schema) (l : ZoneList) (members : List (List ℕ)) (rest : List ZoneCheck) → first_fault (zone_list_checks schema l members ++ rest) ≡ None → ListIsPassed schema l members rest
list-passed schema l members rest e =
    let own = zone_check (list_all (has_form_of l) members) Z3BadValue (list_name l) in
    let last = zone_check (nat_le (length members) 0 || where_there (has_single_key schema) (key_of l)) Z4KeyKind (list_name l) in
    let count = passed (zone_check (nat_le (length members) MOST_LISTED) Z5Limit (list_name l)) (own ∷ last ∷ rest) e in
    let form = passed own (last ∷ rest) count.1 in
    let key = passed last rest form.1 in
    record { form = form.0; key = key.0; behind = key.1 }

-- ---- forms

digit-is : (c : ℕ) → is_ascii_digit c ≡ true → IsAsciiDigit c
digit-is c e = grind arith

digit-low : (c : ℕ) → IsAsciiDigit c → c < 128
digit-low c digit = grind arith

account-is : (s : List ℕ) → is_account_number s ≡ true → IsAccount (chars s)
account-is s e =
    let parts = both (length s == ACCOUNT_DIGITS) (list_all is_ascii_digit s) e in
    let digits : Each IsAsciiDigit s = All-weaker (λ (c : ℕ). is_ascii_digit c ≡ true) IsAsciiDigit digit-is s (AllPass-from_list_all is_ascii_digit s parts.1) in
    let plain : chars s ≡ s = chars-IsAscii s (IsAscii-from_all s (All-weaker IsAsciiDigit (λ (c : ℕ). c < 128) digit-low s digits)) in
    subst IsAccount (sym plain) (record { digits = digits; count = (Decides-eqb (length s) ACCOUNT_DIGITS).0 parts.0 })

le-is : (a b : ℕ) → nat_le a b ≡ true → a ≤ b
le-is a b e = grind (arith, nat_tests)

short-is : (t : List ℕ) → is_short_name t ≡ true → length t ≤ MOST_PIECES
short-is t e = le-is (length t) MOST_PIECES (both (nat_le 1 (length t)) (nat_le (length t) MOST_PIECES) e).1

each-of : (test : List ℕ → Bool) (P : List ℕ → Type 0) → ((s : List ℕ) → test s ≡ true → P (chars s)) → (members : List (List ℕ)) → list_all test members ≡ true → Each P (texts_of members)
each-of test P is members e = All-map P chars members (All-weaker (λ (s : List ℕ). test s ≡ true) (λ s. P (chars s)) is members (AllPass-from_list_all test members e))

-- ---- keys

kind-is : (k other : Kind) → is_same_kind k other ≡ true → k ≡ other
kind-is kind.Text kind.Text e = refl
kind-is kind.Truth kind.Truth e = refl
kind-is kind.Number kind.Number e = refl
kind-is kind.Address kind.Address e = refl
kind-is kind.Bytes kind.Bytes e = refl
kind-is k other e = absurd (cc)

not-true : (b : Bool) → not b ≡ true → b ≡ false
not-true true e = cc
not-true false e = refl

single-is : (k : Kind) (rule : KeyRule) → is_single_of k rule ≡ true → IsSingleOf k rule
single-is k rule e =
    let parts = both (is_same_kind rule.kind k) (not rule.many) e in
    record { kind = kind-is rule.kind k parts.0; single = not-true rule.many parts.1 }

found-single : (k : Kind) (found : Option KeyRule) → is_there_and (is_single_of k) found ≡ true → MatchOption found ⊥ (IsSingleOf k)
found-single k None e = absurd (cc)
found-single k (Some rule) e = single-is k rule e

has-is : (schema : Schema) (name : List ℕ) (k : Kind) → has_single_key schema (name, k) ≡ true → HasSingleKey schema name k
has-is schema name k e = found-single k (item_at (key_named name) schema.keys) e

or-right : (a b : Bool) → a ≡ false → (a || b) ≡ true → b ≡ true
or-right a b is e = cc

some-more : (n : ℕ) → nat_le (suc n) 0 ≡ false
some-more n = grind (arith, nat_tests)

-- a list whose items come of members has a member where it has an item
some-members : {X : Type 0} (f : List (List ℕ) → List X) (members : List (List ℕ)) → f [] ≡ [] → f members ≢ [] → nat_le (length members) 0 ≡ false
some-members f [] none some = absurd (some none)
some-members f (s ∷ members) none some = some-more (length members)

taken : {X : Type 0} (schema : Schema) (name : List ℕ) (k : Kind) (f : List (List ℕ) → List X) (members : List (List ℕ)) → f [] ≡ [] → (nat_le (length members) 0 || has_single_key schema (name, k)) ≡ true → f members ≢ [] → HasSingleKey schema name k
taken schema name k f members none e some = has-is schema name k (or-right _ _ (some-members f members none some) e)

-- ---- the file

pub record IsZoneOfFile (schema : Schema) (zone : Zone) : Type 0 where
  pub takes : TakesZone schema zone
  pub sound : ZoneIsSound zone

pub zone-passed : (schema : Schema) (d : Data) → first_fault (zone_checks schema d) ≡ None → IsZoneOfFile schema (zone_of d)
zone-passed schema d e =
    let whole = passed (zone_check (is_zone_file d) Z2Shape []) (list_checks_in schema d Accounts ++ other-lists schema d) e in
    let accounts = list-passed schema Accounts (members_of Accounts d) (other-lists schema d) whole.1 in
    let blocks = list-passed schema Blocks (members_of Blocks d) (text-lists schema d) accounts.behind in
    let organizations = list-passed schema Organizations (members_of Organizations d) (last-list schema d) blocks.behind in
    let vpcs = list-passed schema Vpcs (members_of Vpcs d) [] organizations.behind in
    record {
      takes = record {
        organizations = λ some. taken schema organization_name kind.Text texts_of (members_of Organizations d) refl organizations.key some;
        vpcs = λ some. taken schema vpc_name kind.Text texts_of (members_of Vpcs d) refl vpcs.key some;
        blocks = λ some. taken schema address_name kind.Address (filter_map block_spelled) (members_of Blocks d) refl blocks.key some;
      };
      sound = record {
        accounts = each-of is_account_number IsAccount account-is (members_of Accounts d) accounts.form;
        organizations = each-of (λ s. is_short_name (chars s)) (λ t. length t ≤ MOST_PIECES) (λ s. short-is (chars s)) (members_of Organizations d) organizations.form;
        vpcs = each-of (λ s. is_short_name (chars s)) (λ t. length t ≤ MOST_PIECES) (λ s. short-is (chars s)) (members_of Vpcs d) vpcs.form;
      };
    }

pub takes-of : (schema : Schema) (d : Data) (result : Result Zone ZoneAnswer) → IsReadOf (zone_checks schema d) (zone_of d) result → IfOk result (TakesZone schema)
takes-of schema d (Ok zone) is = subst (TakesZone schema) (sym is.1) (zone-passed schema d is.0).takes
takes-of schema d (Err e) is = tt

pub sound-of : (schema : Schema) (d : Data) (result : Result Zone ZoneAnswer) → IsReadOf (zone_checks schema d) (zone_of d) result → IfOk result ZoneIsSound
sound-of schema d (Ok zone) is = subst ZoneIsSound (sym is.1) (zone-passed schema d is.0).sound
sound-of schema d (Err e) is = tt
