-- The set of what is outside a zone is sound, and fits each schema that takes the zone.
use Rattle.std.proofs.Common.{◌≡◌, ◌≢◌, ◌≤◌, ℕ, List, [], ◌∷◌, ◌++◌, length, true, false, IsTrue, All as Each, Option, Some, None, refl, subst, sym, arith, ap, ◌∙◌, ◌⊎◌, inl, inr}
use Rattle.std.specs.Prelude.{MatchOption, chars}
use Rattle.std.specs.Char.{to_ascii_lowercase}
use Rattle.std.proofs.lemmas.Bool.Decides.{nat_tests}
use Rattle.std.proofs.lemmas.List.{length-append}
use Rattle.std.proofs.lemmas.List.Elements.{All-nil, All-cons, All-append, All-map, All-push}
use Rattle.cidr_bits.specs.declared.block.Block.{Block}
use Rattle.wildcard_lang.specs.Reading.{literals}
use Rattle.wildcard_lang.specs.Text.{folded_text}
use Rattle.text_table.specs.Table.{item_at}
use Rattle.policy_model.specs.declared.operator.Base.{Base}
use Rattle.policy_model.specs.declared.operator.Base.TheVariants.{StringEquals, IpAddress}
use Rattle.policy_model.specs.declared.operator.Condition.{Condition}
use Rattle.policy_model.specs.declared.operator.Family.TheVariants as family
use Rattle.policy_model.specs.declared.operator.Operand.{Operand}
use Rattle.policy_model.specs.declared.operator.Operand.TheVariants as operand
use Rattle.policy_model.specs.declared.operator.Quantifier.TheVariants.{Plain}
use Rattle.policy_model.specs.declared.principal.Entry.TheVariants.{Account}
use Rattle.policy_model.specs.declared.schema.KeyRule.{KeyRule}
use Rattle.policy_model.specs.declared.schema.Schema.{Schema}
use Rattle.policy_model.specs.declared.set.Statement.{Statement}
use Rattle.policy_model.specs.declared.set.PolicySet.{PolicySet}
use Rattle.policy_model.specs.declared.value.Kind.{Kind}
use Rattle.policy_model.specs.declared.value.Kind.TheVariants as kind
use Rattle.policy_model.specs.Keys.{IsFolded}
use Rattle.policy_model.specs.Operators.{IsOperandOf, family_of, takes_family}
use Rattle.policy_model.specs.Soundness.{ConditionFits, ConditionIsSound, DocumentFits, DocumentIsSound, EntryIsSound, IsAccount, IsSound, RuleTakes, SchemaFits, StatementIsSound}
use Rattle.trust_zones.specs.ZoneKeys.{HasSingleKey, IsSingleOf, address_name, key_named, organization_name, vpc_name}
use Rattle.trust_zones.specs.Zones.{HasFreeNumber, KeepsFit, TakesZone, ZoneIsSound, account_denials, block_denials, block_values, denial, has_one_of, of_accounts, outside, text_denials, text_values, where_some, zone_document}
use Rattle.trust_zones.specs.declared.zone.Zone.{Zone}

-- ---- statements for lists that aren't empty

pub some-each : {X : Type 0} (P : Statement → Type 0) (xs : List X) (s : Statement) → (xs ≢ [] → P s) → Each P (where_some xs s)
some-each P [] s is = All-nil P
some-each P (x ∷ xs) s is = All-cons P s [] (is (λ e. cc)) (All-nil P)

some-few : {X : Type 0} (xs : List X) (s : Statement) → length (where_some xs s) ≤ 1
some-few [] s = omega arith
some-few (x ∷ xs) s = omega arith

-- ---- sound

lower-lower : (c : ℕ) → to_ascii_lowercase (to_ascii_lowercase c) ≡ to_ascii_lowercase c
lower-lower c = grind (arith, nat_tests)

folded-twice : (t : List ℕ) → IsFolded (folded_text t)
folded-twice [] = refl
folded-twice (c ∷ t) = ap (λ (d : ℕ). d ∷ folded_text (folded_text t)) (lower-lower c) ∙ ap (λ (u : List ℕ). to_ascii_lowercase c ∷ u) (folded-twice t)

folded-named : (name : List ℕ) → IsFolded (key_named name)
folded-named name = folded-twice (chars name)

condition-sound : (b : Base) (name : List ℕ) (values : List Operand) → (b ≡ StringEquals) ⊎ (b ≡ IpAddress) → Each (IsOperandOf (family_of b)) values → ConditionIsSound (has_one_of b name values)
condition-sound b name values (inl is) each = record { key = folded-named name; operator = λ null. absurd (cc); values = each }
condition-sound b name values (inr is) each = record { key = folded-named name; operator = λ null. absurd (cc); values = each }

where-sound : (c : Condition) → ConditionIsSound c → StatementIsSound (denial None (c ∷ []))
where-sound c is = record { principal = tt; conditions = All-cons ConditionIsSound c [] is (All-nil ConditionIsSound) }

accounts-sound : (accounts : List (List ℕ)) → Each IsAccount accounts → StatementIsSound (denial (Some (of_accounts accounts)) [])
accounts-sound accounts each = record { principal = All-map EntryIsSound Account accounts each; conditions = All-nil ConditionIsSound }

texts-sound : (texts : List (List ℕ)) → Each (IsOperandOf family.Text) (text_values texts)
texts-sound texts = All-map (IsOperandOf family.Text) (λ t. operand.Pattern (literals false t)) texts (λ k d lt. tt)

blocks-sound : (blocks : List Block) → Each (IsOperandOf family.Address) (block_values blocks)
blocks-sound blocks = All-map (IsOperandOf family.Address) operand.Block blocks (λ k d lt. tt)

module _ (zone : Zone) (sound : ZoneIsSound zone) where
  abbrev accounts : List Statement
  accounts = account_denials zone.accounts

  abbrev organizations : List Statement
  organizations = text_denials organization_name zone.organizations

  abbrev vpcs : List Statement
  vpcs = text_denials vpc_name zone.vpcs

  abbrev blocks : List Statement
  blocks = block_denials zone.blocks

  -- what holds of the statement of each list holds of all statements
  each-denial : (P : Statement → Type 0) → Each P accounts → Each P organizations → Each P vpcs → Each P blocks → Each P (zone_document zone).statements
  each-denial P a o v b = All-append P accounts (organizations ++ (vpcs ++ blocks)) a (All-append P organizations (vpcs ++ blocks) o (All-append P vpcs blocks v b))

  text-sound : (name : List ℕ) (texts : List (List ℕ)) → Each StatementIsSound (text_denials name texts)
  text-sound name texts =
      some-each StatementIsSound texts (denial None (has_one_of StringEquals name (text_values texts) ∷ []))
      (λ some. where-sound (has_one_of StringEquals name (text_values texts)) (condition-sound StringEquals name (text_values texts) (inl refl) (texts-sound texts)))

  document-count : length (zone_document zone).statements ≤ 4294967295
  document-count =
      let a : length accounts ≤ 1 = some-few zone.accounts _ in
      let o : length organizations ≤ 1 = some-few zone.organizations _ in
      let v : length vpcs ≤ 1 = some-few zone.vpcs _ in
      let b : length blocks ≤ 1 = some-few zone.blocks _ in
      let first = length-append accounts (organizations ++ (vpcs ++ blocks)) in
      let second = length-append organizations (vpcs ++ blocks) in
      let third = length-append vpcs blocks in
      omega (arith, a, o, v, b, first, second, third)

  document-sound : DocumentIsSound (zone_document zone)
  document-sound = record {
    count = document-count;
    each = each-denial StatementIsSound
        (some-each StatementIsSound zone.accounts (denial (Some (of_accounts zone.accounts)) []) (λ some. accounts-sound zone.accounts sound.accounts))
        (text-sound organization_name zone.organizations)
        (text-sound vpc_name zone.vpcs)
        (some-each StatementIsSound zone.blocks (denial None (has_one_of IpAddress address_name (block_values zone.blocks) ∷ []))
        (λ some. where-sound (has_one_of IpAddress address_name (block_values zone.blocks)) (condition-sound IpAddress address_name (block_values zone.blocks) (inr refl) (blocks-sound zone.blocks))));
  }

  set-sound : (set : PolicySet) → HasFreeNumber set → IsSound set → IsSound (outside set zone)
  set-sound set free is = record {
    documents = let pushed = length-append set.grants (zone_document zone ∷ []) in omega (arith, pushed, free);
    guards = is.guards;
    granting = All-push DocumentIsSound set.grants (zone_document zone) is.granting document-sound;
    guarding = is.guarding;
  }

  -- ---- fitting

  rule-takes : (b : Base) (k : Kind) (rule : KeyRule) → takes_family k (family_of b) ≡ true → IsSingleOf k rule → RuleTakes rule (record { base = b; quantifier = Plain; if_exists = false })
  rule-takes b k rule fits is = record { kind = subst (λ (own : Kind). IsTrue (takes_family own (family_of b))) (sym is.kind) fits; single = λ null plain. is.single }

  found-takes : (b : Base) (k : Kind) (found : Option KeyRule) → takes_family k (family_of b) ≡ true → MatchOption found ⊥ (IsSingleOf k) → MatchOption found ⊥ (λ rule. RuleTakes rule (record { base = b; quantifier = Plain; if_exists = false }))
  found-takes b k None fits is = is
  found-takes b k (Some rule) fits is = rule-takes b k rule fits is

  module _ (schema : Schema) (takes : TakesZone schema zone) where
    abbrev fits : Statement → Type 0
    fits s = Each (ConditionFits schema) s.conditions

    where-fits : (b : Base) (k : Kind) (name : List ℕ) (values : List Operand) → takes_family k (family_of b) ≡ true → HasSingleKey schema name k → fits (denial None (has_one_of b name values ∷ []))
    where-fits b k name values of has = All-cons (ConditionFits schema) (has_one_of b name values) [] (found-takes b k (item_at (key_named name) schema.keys) of has) (All-nil (ConditionFits schema))

    document-fits : DocumentFits schema (zone_document zone)
    document-fits = each-denial fits
        (some-each fits zone.accounts (denial (Some (of_accounts zone.accounts)) []) (λ some. All-nil (ConditionFits schema)))
        (some-each fits zone.organizations (denial None (has_one_of StringEquals organization_name (text_values zone.organizations) ∷ [])) (λ some. where-fits StringEquals kind.Text organization_name (text_values zone.organizations) refl (takes.organizations some)))
        (some-each fits zone.vpcs (denial None (has_one_of StringEquals vpc_name (text_values zone.vpcs) ∷ [])) (λ some. where-fits StringEquals kind.Text vpc_name (text_values zone.vpcs) refl (takes.vpcs some)))
        (some-each fits zone.blocks (denial None (has_one_of IpAddress address_name (block_values zone.blocks) ∷ [])) (λ some. where-fits IpAddress kind.Address address_name (block_values zone.blocks) refl (takes.blocks some)))

    set-fits : (set : PolicySet) → HasFreeNumber set → SchemaFits schema set → SchemaFits schema (outside set zone)
    set-fits set free is = record {
      sound = set-sound set free is.sound;
      granting = All-push (DocumentFits schema) set.grants (zone_document zone) is.granting document-fits;
      guarding = is.guarding;
    }

pub keeps-fit : (set : PolicySet) (zone : Zone) (made : PolicySet) → ZoneIsSound zone → made ≡ outside set zone → KeepsFit set zone made
keeps-fit set zone made sound is = record {
  sound = λ free own. subst IsSound (sym is) (set-sound zone sound set free own);
  fits = λ schema takes free own. subst (SchemaFits schema) (sym is) (set-fits zone sound schema takes set free own);
}
