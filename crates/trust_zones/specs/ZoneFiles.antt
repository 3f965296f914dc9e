-- Zone files: this project's own form. A file is an object of four lists of strings; any of them may be left out. What is checked
-- of a file, in this order, and the zone that it stands for.
use Rattle.std.specs.Prelude.{◌≡◌, ⊤, ℕ, List, [], ◌∷◌, ◌++◌, length, map, Bool, true, false, ◌&&◌, ◌||◌, ◌==◌, not, nat_le, is_some, Option, Some, None, Result, Ok, Err, unwrap_or, chars, codes}
use Rattle.std.specs.Char.{is_ascii_digit}
use Rattle.std.specs.List.{filter_map, flat_map, list_all}
use Rattle.serde_json.specs.Data.{Data}
use Rattle.serde_json.specs.Find.{as_str, get}
use Rattle.text_table.specs.Table.{item_at}
use Rattle.wildcard_lang.specs.declared.pattern.TheConstants.{MOST_PIECES}
use Rattle.cidr_bits.specs.Readings.{block_spelled}
use Rattle.policy_model.specs.declared.principal.TheConstants.{ACCOUNT_DIGITS}
use Rattle.policy_model.specs.declared.schema.KeyRule.{KeyRule}
use Rattle.policy_model.specs.declared.schema.Schema.{Schema}
use Rattle.policy_model.specs.declared.value.Kind.{Kind}
use Rattle.policy_model.specs.declared.value.Kind.TheVariants as kind
use Rattle.json_shapes.specs.Checks.{first_fault}
use Rattle.serde_json.specs.declared.value.Value.{Value as JsonValue}
use Rattle.json_shapes.specs.Json.{json_of, list_under, pairs_in, values_in, views}
use Rattle.json_shapes.specs.Shapes.{is_among, is_list, is_object, is_string, is_there_and, where_there}
use Rattle.trust_zones.specs.ZoneChecks.{ZoneCheck, zone_check, zone_fault, ZoneAnswer}
use Rattle.trust_zones.specs.ZoneKeys.{address_name, key_named, organization_name, vpc_name}
use Rattle.trust_zones.specs.declared.fault.ZoneCode.TheVariants.{Z1NotJson, Z2Shape, Z3BadValue, Z4KeyKind, Z5Limit}
use Rattle.trust_zones.specs.declared.fault.ZoneFault.{ZoneFault}
use Rattle.trust_zones.specs.declared.list.ZoneList.{ZoneList}
use Rattle.trust_zones.specs.declared.list.ZoneList.TheVariants.{Accounts, Blocks, Organizations, Vpcs}
use Rattle.trust_zones.specs.declared.list.TheConstants.{MOST_LISTED}
use Rattle.trust_zones.specs.declared.zone.Zone.{Zone}
use Rattle.json_shapes.specs.declared.read_error.ReadError.TheVariants.{Refused, NoMemory}

-- ---- the four lists

-- in the order of their names, in which they are checked
abbrev pub zone_lists : List ZoneList
zone_lists = Accounts ∷ Blocks ∷ Organizations ∷ Vpcs ∷ []

-- the name of a list
abbrev pub list_name : ZoneList → List ℕ
list_name Accounts = codes "Accounts"
list_name Blocks = codes "Blocks"
list_name Organizations = codes "Organizations"
list_name Vpcs = codes "Vpcs"

-- twelve ASCII digits, each of which is one byte
abbrev pub is_account_number : List ℕ → Bool
is_account_number s = (length s == ACCOUNT_DIGITS) && list_all is_ascii_digit s

-- one character, and at most as many as a pattern has pieces
abbrev pub is_short_name : List ℕ → Bool
is_short_name t = nat_le 1 (length t) && nat_le (length t) MOST_PIECES

-- the form of a list's members: an account, a block of addresses, or a short text
abbrev pub has_form_of : ZoneList → List ℕ → Bool
has_form_of Accounts s = is_account_number s
has_form_of Blocks s = is_some (block_spelled s)
has_form_of Organizations s = is_short_name (chars s)
has_form_of Vpcs s = is_short_name (chars s)

-- the key whose values the members of a list are, and their kind. Members of `Accounts` are compared with the principal
abbrev pub key_of : ZoneList → Option (List ℕ × Kind)
key_of Accounts = None
key_of Blocks = Some (address_name, kind.Address)
key_of Organizations = Some (organization_name, kind.Text)
key_of Vpcs = Some (vpc_name, kind.Text)

-- ---- the file as a whole

-- a list of strings
abbrev pub is_string_list : Data → Bool
is_string_list d = is_list d && list_all is_string (values_in d)

-- the name is that of a list, and a list of strings stands there
abbrev pub is_zone_member : List ℕ × Data → Bool
is_zone_member pair = is_among (map list_name zone_lists) pair.0 && is_string_list pair.1

-- an object of such members
abbrev pub is_zone_file : Data → Bool
is_zone_file d = is_object d && list_all is_zone_member (pairs_in d)

-- this is checked first
abbrev pub zone_form_checks : Data → List ZoneCheck
zone_form_checks d = zone_check (is_zone_file d) Z2Shape [] ∷ []

-- ---- its lists

-- the string that a value is (of any other value, which no check passes, the empty one)
abbrev pub string_of : Data → List ℕ
string_of d = unwrap_or (as_str d) []

-- the strings of a list, and none where it is left out
abbrev pub members_of : ZoneList → Data → List (List ℕ)
members_of l d = map string_of (list_under (get (list_name l) d))

-- the strings that values are
abbrev pub strings_in : List JsonValue → List (List ℕ)
strings_in values = map string_of (views values)

-- the kinds are one
abbrev pub is_same_kind : Kind → Kind → Bool
is_same_kind kind.Text kind.Text = true
is_same_kind kind.Truth kind.Truth = true
is_same_kind kind.Number kind.Number = true
is_same_kind kind.Address kind.Address = true
is_same_kind kind.Bytes kind.Bytes = true
is_same_kind k other = false

-- the rule gives a key values of the kind, and not several
abbrev pub is_single_of : Kind → KeyRule → Bool
is_single_of k rule = is_same_kind rule.kind k && not rule.many

-- the key is one of the schema, with one value of this kind
abbrev pub has_single_key : Schema → List ℕ × Kind → Bool
has_single_key schema key = is_there_and (is_single_of key.1) (item_at (key_named key.0) schema.keys)

-- where a list has a member, its key is one of the schema, with one value of its kind
abbrev pub zone_key_checks : Schema → ZoneList → List (List ℕ) → List ZoneCheck
zone_key_checks schema l members =
    zone_check (nat_le (length members) 0 || where_there (has_single_key schema) (key_of l)) Z4KeyKind (list_name l) ∷ []

-- a list has few members, and each is of its form; then comes its key
abbrev pub zone_list_checks : Schema → ZoneList → List (List ℕ) → List ZoneCheck
zone_list_checks schema l members =
    zone_check (nat_le (length members) MOST_LISTED) Z5Limit (list_name l) ∷
    zone_check (list_all (has_form_of l) members) Z3BadValue (list_name l) ∷ zone_key_checks schema l members

-- the checks of a file's list
abbrev pub list_checks_in : Schema → Data → ZoneList → List ZoneCheck
list_checks_in schema d l = zone_list_checks schema l (members_of l d)

-- ---- what it stands for

-- the characters of strings, and the blocks that strings spell
abbrev pub texts_of : List (List ℕ) → List (List ℕ)
texts_of members = map chars members

-- first the file as a whole, then its lists one by one
abbrev pub zone_checks : Schema → Data → List ZoneCheck
zone_checks schema d = zone_form_checks d ++ flat_map (list_checks_in schema d) zone_lists

-- the zone of a file
abbrev pub zone_of : Data → Zone
zone_of d = record {
  accounts = texts_of (members_of Accounts d);
  organizations = texts_of (members_of Organizations d);
  vpcs = texts_of (members_of Vpcs d);
  blocks = filter_map block_spelled (members_of Blocks d);
}

-- the zone that a file stands for under the schema, or its first fault
abbrev pub zone_or : Zone → Option ZoneFault → Result Zone ZoneFault
zone_or zone None = Ok zone
zone_or zone (Some fault) = Err fault

abbrev pub zone_read : Schema → Option Data → Result Zone ZoneFault
zone_read schema None = Err (zone_fault Z1NotJson [])
zone_read schema (Some d) = zone_or (zone_of d) (first_fault (zone_checks schema d))

abbrev pub zone_from : Schema → List ℕ → Result Zone ZoneFault
zone_from schema bytes = zone_read schema (json_of bytes)

-- what a reader of files answers: the zone, or the first fault, besides want of memory
abbrev pub IsZoneFrom : Schema → List ℕ → Result Zone ZoneAnswer → Type 0
IsZoneFrom schema bytes (Ok zone) = zone_from schema bytes ≡ Ok zone
IsZoneFrom schema bytes (Err (Refused fault)) = zone_from schema bytes ≡ Err fault
IsZoneFrom schema bytes (Err NoMemory) = ⊤

-- ---- the limits as numbers: members of a list, digits of an account, and characters of a listed organisation or VPC
abbrev pub ZoneLimits : Type 0
ZoneLimits = (MOST_LISTED ≡ 100) × (ACCOUNT_DIGITS ≡ 12) × (MOST_PIECES ≡ 2048)
