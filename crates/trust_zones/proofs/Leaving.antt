-- What the set of what is outside a zone allows.
use Rattle.std.proofs.Common.{◌↔◌, List, [], ◌∷◌, ◌++◌, true, false, Any, Option, Some, None, inl, inr}
use Rattle.policy_model.specs.declared.matcher.Matcher.{Matcher}
use Rattle.policy_model.specs.declared.operator.Condition.{Condition}
use Rattle.policy_model.specs.declared.operator.Base.TheVariants.{StringEquals, IpAddress}
use Rattle.policy_model.specs.declared.principal.Entry.{Entry}
use Rattle.policy_model.specs.declared.principal.Entry.TheVariants.{Account}
use Rattle.policy_model.specs.declared.request.Request.{Request}
use Rattle.policy_model.specs.declared.schema.Schema.{Schema}
use Rattle.policy_model.specs.declared.set.Statement.{Statement}
use Rattle.policy_model.specs.declared.set.Document.{Document}
use Rattle.policy_model.specs.Principals.{EntryHolds}
use Rattle.policy_model.specs.Requests.{IsValid}
use Rattle.policy_model.specs.Sets.{Decides}
use Rattle.policy_model.proofs.Laws.{Any-nil, Any-here}
use Rattle.trust_zones.specs.ZoneKeys.{address_name, organization_name, vpc_name}
use Rattle.trust_zones.specs.Zones.{GivesAddressIn, GivesText, IsInside, by_account, by_organization, by_vpc, by_block, TakesZone, ZonesLeaveTheOutside, account_denials, block_denials, block_values, denial, has_one_of, of_accounts, text_denials, text_values, where_some, zone_document}
use Rattle.trust_zones.specs.declared.zone.Zone.{Zone}
use Rattle.trust_zones.proofs.Items.{any-append, any-left, any-one, any-right}
use Rattle.trust_zones.proofs.Denying.{account-denies, block-denies, some-denies, text-denies}

-- ---- no statement of the document allows

some-grants : {X : Type 0} (schema : Schema) (r : Request) (xs : List X) (principal : Option (Matcher Entry)) (conditions : List Condition) → ¬ Any (Decides schema true r) (where_some xs (denial principal conditions))
some-grants schema r [] principal conditions w = Any-nil (Decides schema true r) w
some-grants schema r (x ∷ xs) principal conditions w = let d = any-one (Decides schema true r) (denial principal conditions) w in absurd (cc)

module _ (schema : Schema) (zone : Zone) (r : Request) where
  abbrev organizations : List Statement
  organizations = text_denials organization_name zone.organizations

  abbrev vpcs : List Statement
  vpcs = text_denials vpc_name zone.vpcs

  abbrev accounts : List Statement
  accounts = account_denials zone.accounts

  abbrev blocks : List Statement
  blocks = block_denials zone.blocks

  none-allows : ¬ Any (Decides schema true r) (zone_document zone).statements
  none-allows w =
      elim (any-append (Decides schema true r) accounts (organizations ++ (vpcs ++ blocks)) w) [
        | inl a ↦ some-grants schema r zone.accounts (Some (of_accounts zone.accounts)) [] a
        | inr more ↦ elim (any-append (Decides schema true r) organizations (vpcs ++ blocks) more) [
          | inl o ↦ some-grants schema r zone.organizations None (has_one_of StringEquals organization_name (text_values zone.organizations) ∷ []) o
          | inr others ↦ elim (any-append (Decides schema true r) vpcs blocks others) [
            | inl v ↦ some-grants schema r zone.vpcs None (has_one_of StringEquals vpc_name (text_values zone.vpcs) ∷ []) v
            | inr b ↦ some-grants schema r zone.blocks None (has_one_of IpAddress address_name (block_values zone.blocks) ∷ []) b
          ]
        ]
      ]

  -- ---- a statement of the document denies exactly what comes from inside

  module _ (takes : TakesZone schema zone) (valid : IsValid schema r) where
    abbrev denies : Statement → Type 0
    denies = Decides schema false r

    account-list : Any denies accounts ↔ Any (λ a. EntryHolds r (Account a)) zone.accounts
    account-list = some-denies denies (λ a. EntryHolds r (Account a)) zone.accounts (denial (Some (of_accounts zone.accounts)) []) (λ some. account-denies schema r zone.accounts)

    organization-list : Any denies organizations ↔ Any (GivesText r organization_name) zone.organizations
    organization-list =
        some-denies denies (GivesText r organization_name) zone.organizations (denial None (has_one_of StringEquals organization_name (text_values zone.organizations) ∷ []))
        (λ some. text-denies schema r organization_name zone.organizations valid (takes.organizations some))

    vpc-list : Any denies vpcs ↔ Any (GivesText r vpc_name) zone.vpcs
    vpc-list =
        some-denies denies (GivesText r vpc_name) zone.vpcs (denial None (has_one_of StringEquals vpc_name (text_values zone.vpcs) ∷ []))
        (λ some. text-denies schema r vpc_name zone.vpcs valid (takes.vpcs some))

    block-list : Any denies blocks ↔ Any (GivesAddressIn r address_name) zone.blocks
    block-list =
        some-denies denies (GivesAddressIn r address_name) zone.blocks (denial None (has_one_of IpAddress address_name (block_values zone.blocks) ∷ []))
        (λ some. block-denies schema r zone.blocks valid (takes.blocks some))

    denied-inside : Any denies (zone_document zone).statements → IsInside zone r
    denied-inside w =
        elim (any-append denies accounts (organizations ++ (vpcs ++ blocks)) w) [
          | inl a ↦ by_account (account-list.0 a)
          | inr more ↦ elim (any-append denies organizations (vpcs ++ blocks) more) [
            | inl o ↦ by_organization (organization-list.0 o)
            | inr others ↦ elim (any-append denies vpcs blocks others) [
              | inl v ↦ by_vpc (vpc-list.0 v)
              | inr b ↦ by_block (block-list.0 b)
            ]
          ]
        ]

    inside-denied : IsInside zone r → Any denies (zone_document zone).statements
    inside-denied (by_account a) = any-left denies accounts (organizations ++ (vpcs ++ blocks)) (account-list.1 a)
    inside-denied (by_organization o) = any-right denies accounts (organizations ++ (vpcs ++ blocks)) (any-left denies organizations (vpcs ++ blocks) (organization-list.1 o))
    inside-denied (by_vpc v) = any-right denies accounts (organizations ++ (vpcs ++ blocks)) (any-right denies organizations (vpcs ++ blocks) (any-left denies vpcs blocks (vpc-list.1 v)))
    inside-denied (by_block b) = any-right denies accounts (organizations ++ (vpcs ++ blocks)) (any-right denies organizations (vpcs ++ blocks) (any-right denies vpcs blocks (block-list.1 b)))

-- ---- the set

pub zones-leave : ZonesLeaveTheOutside
zones-leave schema set zone r takes valid =
    let P = λ (d : Document). Any (Decides schema true r) d.statements in
    let N = λ (d : Document). Any (Decides schema false r) d.statements in
    let document = zone_document zone in (
      λ a. (
        record {
          granted = elim (any-append P set.grants (document ∷ []) a.granted) [ inl front ↦ front | inr own ↦ absurd (none-allows schema zone r (any-one P document own)) ];
          guarded = a.guarded;
          not_denied = λ denied. a.not_denied (any-left N set.grants (document ∷ []) denied);
          not_denied_by_guard = a.not_denied_by_guard;
        },
        λ inside. a.not_denied (any-right N set.grants (document ∷ []) (Any-here N document [] (inside-denied schema zone r takes valid inside))),
      ),
      λ h. record {
        granted = any-left P set.grants (document ∷ []) h.0.granted;
        guarded = h.0.guarded;
        not_denied = λ denied. elim (any-append N set.grants (document ∷ []) denied) [
          | inl front ↦ h.0.not_denied front
          | inr own ↦ h.1 (denied-inside schema zone r takes valid (any-one N document own))
        ];
        not_denied_by_guard = h.0.not_denied_by_guard;
      },
    )
