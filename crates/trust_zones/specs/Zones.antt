-- Trust zones: which requests come from inside one, and the set of policies that allows what another allows from outside of it. What
-- makes a request inside is this project's own choice.
use Rattle.std.specs.Prelude.{◌≢◌, ◌≤◌, ◌<◌, ◌+◌, ◌↔◌, ℕ, List, [], ◌∷◌, ◌++◌, length, map, sum_by, false, Option, Some, None, All as Each, Any, Contains, chars}
use Rattle.wildcard_lang.specs.Reading.{literals}
use Rattle.wildcard_lang.specs.declared.pattern.TheConstants.{MOST_PIECES}
use Rattle.wildcard_lang.specs.declared.piece.Piece.{Piece}
use Rattle.wildcard_lang.specs.declared.piece.Piece.TheVariants.{Many}
use Rattle.cidr_bits.specs.Blocks.{LiesIn}
use Rattle.cidr_bits.specs.declared.block.Block.{Block}
use Rattle.policy_model.specs.declared.matcher.Matcher.{Matcher}
use Rattle.policy_model.specs.declared.operator.Base.{Base}
use Rattle.policy_model.specs.declared.operator.Base.TheVariants.{StringEquals, IpAddress}
use Rattle.policy_model.specs.declared.operator.Condition.{Condition}
use Rattle.policy_model.specs.declared.operator.Operand.{Operand}
use Rattle.policy_model.specs.declared.operator.Operand.TheVariants as operand
use Rattle.policy_model.specs.declared.operator.Quantifier.TheVariants.{Plain}
use Rattle.policy_model.specs.declared.principal.Entry.{Entry}
use Rattle.policy_model.specs.declared.principal.Entry.TheVariants.{Account}
use Rattle.policy_model.specs.declared.request.Request.{Request}
use Rattle.policy_model.specs.declared.schema.Schema.{Schema}
use Rattle.policy_model.specs.declared.set.Statement.{Statement}
use Rattle.policy_model.specs.declared.set.Document.{Document}
use Rattle.policy_model.specs.declared.set.PolicySet.{PolicySet}
use Rattle.policy_model.specs.declared.value.Kind.TheVariants as kind
use Rattle.policy_model.specs.declared.value.Value.{Value}
use Rattle.policy_model.specs.declared.value.Value.TheVariants as value
use Rattle.policy_model.specs.Conditions.{values_at}
use Rattle.policy_model.specs.Principals.{EntryHolds}
use Rattle.policy_model.specs.Requests.{IsValid}
use Rattle.policy_model.specs.Sets.{Allows}
use Rattle.policy_model.specs.Soundness.{IsAccount, IsSound, SchemaFits}
use Rattle.trust_zones.specs.ZoneKeys.{HasSingleKey, address_name, key_named, organization_name, vpc_name}
use Rattle.trust_zones.specs.declared.zone.Zone.{Zone}

-- ---- what is inside

-- the request gives the key of this name the text
abbrev pub GivesText : Request → List ℕ → List ℕ → Type 0
GivesText r name t = Contains (values_at r (key_named name)) (value.Word t)

-- the value is an address of the block
abbrev pub IsAddressIn : Block → Value → Type 0
IsAddressIn block (value.Address a) = LiesIn block a
IsAddressIn block v = ⊥

-- the request gives the key of this name an address of the block
abbrev pub GivesAddressIn : Request → List ℕ → Block → Type 0
GivesAddressIn r name block = Any (IsAddressIn block) (values_at r (key_named name))

-- the request comes from inside the zone: its principal is one of a listed account, or it gives a listed organisation or VPC, or an
-- address of a listed block
pub data IsInside (zone : Zone) (r : Request) : Type 0 where
  by_account : Any (λ a. EntryHolds r (Account a)) zone.accounts → IsInside zone r
  by_organization : Any (GivesText r organization_name) zone.organizations → IsInside zone r
  by_vpc : Any (GivesText r vpc_name) zone.vpcs → IsInside zone r
  by_block : Any (GivesAddressIn r address_name) zone.blocks → IsInside zone r

-- ---- zones that a run can answer for

-- each account is twelve digits, and each listed text has at most as many characters as a pattern has pieces
pub record ZoneIsSound (zone : Zone) : Type 0 where
  pub accounts : Each IsAccount zone.accounts
  pub organizations : Each (λ t. length t ≤ MOST_PIECES) zone.organizations
  pub vpcs : Each (λ t. length t ≤ MOST_PIECES) zone.vpcs

-- the key of each list that isn't empty has in the schema one value, a text or an address
pub record TakesZone (schema : Schema) (zone : Zone) : Type 0 where
  pub organizations : zone.organizations ≢ [] → HasSingleKey schema organization_name kind.Text
  pub vpcs : zone.vpcs ≢ [] → HasSingleKey schema vpc_name kind.Text
  pub blocks : zone.blocks ≢ [] → HasSingleKey schema address_name kind.Address

-- ---- what is left outside

-- the pattern of every action
abbrev pub every_action : List Piece
every_action = Many ∷ []

-- all actions are denied to these principals under these conditions
abbrev pub denial : Option (Matcher Entry) → List Condition → Statement
denial principal conditions = record {
  allow = false;
  principal = principal;
  action = record { not = false; items = every_action ∷ [] };
  resource = None;
  conditions = conditions;
}

-- the principals of the accounts
abbrev pub of_accounts : List (List ℕ) → Matcher Entry
of_accounts accounts = record { not = false; items = map Account accounts }

-- the key of the name has one of the values, by an operator without a prefix
abbrev pub has_one_of : Base → List ℕ → List Operand → Condition
has_one_of b name values = record {
  operator = record { base = b; quantifier = Plain; if_exists = false };
  key = key_named name;
  written = chars name;
  values = values;
}

-- listed texts as they stand, with neither wildcards nor escapes, and listed blocks
abbrev pub text_values : List (List ℕ) → List Operand
text_values texts = map (λ t. operand.Pattern (literals false t)) texts

abbrev pub block_values : List Block → List Operand
block_values blocks = map operand.Block blocks

-- a statement for a list that isn't empty
abbrev pub where_some : {X : Type 0} → List X → Statement → List Statement
where_some [] s = []
where_some (x ∷ xs) s = s ∷ []

-- a statement that denies everything to requests with a listed item, for each list that isn't empty
abbrev pub account_denials : List (List ℕ) → List Statement
account_denials accounts = where_some accounts (denial (Some (of_accounts accounts)) [])

abbrev pub text_denials : List ℕ → List (List ℕ) → List Statement
text_denials name texts = where_some texts (denial None (has_one_of StringEquals name (text_values texts) ∷ []))

abbrev pub block_denials : List Block → List Statement
block_denials blocks =
    where_some blocks (denial None (has_one_of IpAddress address_name (block_values blocks) ∷ []))

-- the document that denies everything to requests from inside
abbrev pub zone_document : Zone → Document
zone_document zone = record {
  statements =
      account_denials zone.accounts
      ++ (text_denials organization_name zone.organizations
      ++ (text_denials vpc_name zone.vpcs ++ block_denials zone.blocks));
}

-- the set with this document behind its grants
abbrev pub with_document : PolicySet → Document → PolicySet
with_document set d = record { grants = set.grants ++ d ∷ []; guards = set.guards }

-- the set of what is outside the zone
abbrev pub outside : PolicySet → Zone → PolicySet
outside set zone = with_document set (zone_document zone)

-- ---- laws

-- of valid requests the set of what is outside allows those that the set allows and that don't come from inside
abbrev pub ZonesLeaveTheOutside : Type 0
ZonesLeaveTheOutside = (schema : Schema) (set : PolicySet) (zone : Zone) (r : Request) →
    TakesZone schema zone → IsValid schema r →
    Allows schema (outside set zone) r ↔ (Allows schema set r × ¬ IsInside zone r)

-- a document more has a number of 32 bits
abbrev pub HasFreeNumber : PolicySet → Type 0
HasFreeNumber set = length set.grants + sum_by (λ g. length g) set.guards < 4294967295

-- the set, made of another by a zone, is sound where that is, and fits a schema that fits that and takes the zone
pub record KeepsFit (set : PolicySet) (zone : Zone) (made : PolicySet) : Type 0 where
  pub sound : HasFreeNumber set → IsSound set → IsSound made
  pub fits : (schema : Schema) → TakesZone schema zone → HasFreeNumber set → SchemaFits schema set → SchemaFits schema made
