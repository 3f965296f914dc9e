-- The conditions of a zone's document are known to a run whose schema takes the zone, so that a run on what is outside has that schema.
use Rattle.std.proofs.Common.{◌≡◌, ◌≢◌, ◌+◌, ℕ, List, [], ◌∷◌, ◌++◌, ◌||◌, Bool, true, false, length, filter, is_none, if◌then◌else◌, All as Each, Option, Some, None, Ok, refl, ap, sym, ◌∙◌, subst, append_assoc}
use Rattle.std.specs.Prelude.{MatchOption}
use Rattle.std.specs.List.{list_any}
use Rattle.std.proofs.lemmas.List.Elements.{All-append, All-cons, All-nil}
use Rattle.text_table.specs.Table.{item_at}
use Rattle.json_shapes.specs.Checks.{first_fault}
use Rattle.policy_model.specs.Operators.{family_of, is_null, takes_family}
use Rattle.policy_model.specs.StatementNames.{name_of}
use Rattle.policy_model.specs.declared.operator.Base.{Base}
use Rattle.policy_model.specs.declared.operator.Base.TheVariants.{StringEquals, IpAddress}
use Rattle.policy_model.specs.declared.operator.Condition.{Condition}
use Rattle.policy_model.specs.declared.operator.Operand.{Operand}
use Rattle.policy_model.specs.declared.operator.Quantifier.TheVariants.{Plain}
use Rattle.policy_model.specs.declared.schema.KeyRule.{KeyRule}
use Rattle.policy_model.specs.declared.schema.Schema.{Schema}
use Rattle.policy_model.specs.declared.set.Document.{Document}
use Rattle.policy_model.specs.declared.set.PolicySet.{PolicySet}
use Rattle.policy_model.specs.declared.set.Statement.{Statement}
use Rattle.policy_model.specs.declared.value.Kind.{Kind}
use Rattle.policy_model.specs.declared.value.Kind.TheVariants.{Text, Address, Truth}
use Rattle.request_schema.specs.KeyOperators.{IsOperatorOn}
use Rattle.request_schema.specs.RunSchemas.{IsInferred, KeysHaveTheirRules, infer_checks, infer_fault, rule_in_use, run_rule, schema_for, schema_of_run}
use Rattle.request_schema.specs.Uses.{Use, comparing_uses, compares_values, of_key, use_of, uses_in, uses_of}
use Rattle.request_schema.proofs.Laws.{IsKnownUse, IsRunOf, run-among, run-renamed, to-documents}
use Rattle.trust_zones.specs.declared.zone.Zone.{Zone}
use Rattle.trust_zones.specs.ZoneKeys.{HasSingleKey, IsSingleOf, address_name, key_named, organization_name, vpc_name}
use Rattle.trust_zones.specs.Zones.{TakesZone, account_denials, block_denials, block_values, denial, has_one_of, of_accounts, outside, text_denials, text_values, zone_document}
use Rattle.trust_zones.specs.ZoneRuns.{ZonesKeepSchemas}
use Rattle.trust_zones.proofs.Keeping.{some-each}
use Rattle.trust_zones.proofs.Numbering.{added, granted, guarded, uses-parted, uses-with}

-- ---- a key with one value is compared by some use

none-filtered : (p : Use → Bool) (xs : List Use) → list_any p xs ≡ false → filter p xs ≡ []
none-filtered p [] none = refl
none-filtered p (x ∷ xs) none = by (p x) none (none-filtered p xs)
  where
    by : (b : Bool) → (b || list_any p xs) ≡ false → (list_any p xs ≡ false → filter p xs ≡ []) → (if b then x ∷ filter p xs else filter p xs) ≡ []
    by true none rest = absurd (cc)
    by false none rest = rest none

-- without one the rule of a further key has several
uncompared : (k : Kind) (mine : List Use) → MatchOption (rule_in_use mine []) ⊥ (IsSingleOf k) → ⊥
uncompared k [] has = has
uncompared k (u ∷ mine) has = let one = has.single in absurd (cc)

single-compared : (named : Schema) (us : List Use) (k : Kind) (key : List ℕ) → MatchOption (run_rule named us key) ⊥ (IsSingleOf k) → is_none (item_at key named.keys) ≡ true → list_any (compares_values key) us ≡ true
single-compared named us k key has further = by (list_any (compares_values key) us) refl
  where
    own : MatchOption (rule_in_use (of_key key us) (comparing_uses key us)) ⊥ (IsSingleOf k)
    own = subst (λ (b : Bool). MatchOption (if b then rule_in_use (of_key key us) (comparing_uses key us) else item_at key named.keys) ⊥ (IsSingleOf k)) further has

    by : (b : Bool) → list_any (compares_values key) us ≡ b → b ≡ true
    by true is = refl
    by false is = absurd (uncompared k (of_key key us) (subst (λ (vs : List Use). MatchOption (rule_in_use (of_key key us) vs) ⊥ (IsSingleOf k)) (none-filtered (compares_values key) us is) own))

-- ---- conditions of a zone

operator-on : (b : Base) (k : Kind) (found : Option KeyRule) → is_null b ≡ false → takes_family k (family_of b) ≡ true → k ≢ Truth → MatchOption found ⊥ (IsSingleOf k) →
    MatchOption found ⊥ (λ rule. IsOperatorOn rule.kind rule.many (record { base = b; quantifier = Plain; if_exists = false }))
operator-on b k None compares takes other has = has
operator-on b k (Some rule) compares takes other has = record {
  compares = compares;
  takes = subst (λ (own : Kind). takes_family own (family_of b) ≡ true) (sym has.kind) takes;
  truth = λ is. absurd (other (sym has.kind ∙ is));
  prefixed = sym has.single;
}

module _ (rules : KeysHaveTheirRules) (named schema : Schema) (set : PolicySet) (zone : Zone) (inferred : IsInferred named set None (Ok schema)) (takes : TakesZone schema zone) where
  abbrev us : List Use
  us = uses_in false set

  passed : first_fault (infer_checks named us) ≡ None
  unfolding infer_fault uses_of
  passed = inferred.0

  schema-is : schema ≡ schema_for named us
  unfolding schema_of_run uses_of
  schema-is = inferred.1

  ruled : (key : List ℕ) → item_at key schema.keys ≡ run_rule named us key
  unfolding uses_of
  ruled key = ap (λ (s : Schema). item_at key s.keys) inferred.1 ∙ rules named set None key

  -- the condition is known, whichever statement it stands in
  abbrev Known : Condition → Type 0
  Known c = IsKnownUse named us (use_of false (name_of 0 0) c)

  abbrev KnownIn : Statement → Type 0
  KnownIn s = Each Known s.conditions

  known-condition : (b : Base) (k : Kind) (name : List ℕ) (values : List Operand) → is_null b ≡ false → takes_family k (family_of b) ≡ true → k ≢ Truth → HasSingleKey schema name k → KnownIn (denial None (has_one_of b name values ∷ []))
  known-condition b k name values compares fits other has =
      let key = key_named name in
      let own : MatchOption (run_rule named us (key_named name)) ⊥ (IsSingleOf k) = subst (λ (o : Option KeyRule). MatchOption o ⊥ (IsSingleOf k)) (ruled key) has in
      let known : Known (has_one_of b name values) = record { in_use = single-compared named us k key own; rule = operator-on b k (run_rule named us key) compares fits other own } in
      All-cons Known (has_one_of b name values) [] known (All-nil Known)

  text-known : (name : List ℕ) (texts : List (List ℕ)) → (texts ≢ [] → HasSingleKey schema name Text) → Each KnownIn (text_denials name texts)
  text-known name texts has =
      some-each KnownIn texts (denial None (has_one_of StringEquals name (text_values texts) ∷ []))
      (λ some. known-condition StringEquals Text name (text_values texts) refl refl (λ is. absurd (cc)) (has some))

  block-known : Each KnownIn (block_denials zone.blocks)
  block-known =
      some-each KnownIn zone.blocks (denial None (has_one_of IpAddress address_name (block_values zone.blocks) ∷ []))
      (λ some. known-condition IpAddress Address address_name (block_values zone.blocks) refl refl (λ is. absurd (cc)) (takes.blocks some))

  account-known : Each KnownIn (account_denials zone.accounts)
  account-known = some-each KnownIn zone.accounts (denial (Some (of_accounts zone.accounts)) []) (λ some. All-nil Known)

  zone-known : Each (λ (d : Document). Each KnownIn d.statements) (zone_document zone ∷ [])
  zone-known =
      let a = account_denials zone.accounts in
      let o = text_denials organization_name zone.organizations in
      let v = text_denials vpc_name zone.vpcs in
      let b = block_denials zone.blocks in
      let each : Each KnownIn (a ++ (o ++ (v ++ b))) =
      All-append KnownIn a (o ++ (v ++ b)) account-known
      (All-append KnownIn o (v ++ b) (text-known organization_name zone.organizations takes.organizations)
      (All-append KnownIn v b (text-known vpc_name zone.vpcs takes.vpcs) block-known)) in
      All-cons (λ (d : Document). Each KnownIn d.statements) (zone_document zone) [] each (All-nil (λ (d : Document). Each KnownIn d.statements))

  -- ---- the run

  abbrev denied : List Use
  denied = added set (zone_document zone)

  denied-known : Each (IsKnownUse named us) denied
  denied-known = λ i u within.
      let known = to-documents Known false (1 + length set.grants) (zone_document zone ∷ []) zone-known i u within in
      record { in_use = known.in_use; rule = known.rule }

  abbrev middle : List Use
  middle = (granted set ++ denied) ++ guarded set

  run-middle : IsRunOf named us middle
  run-middle =
      subst (IsRunOf named us) (sym (append_assoc (granted set) denied (guarded set)))
      (run-among named us passed (granted set) (guarded set) (uses-parted set) denied denied-known)

  run-outside : IsRunOf named middle (uses_in false (outside set zone))
  run-outside =
      subst (IsRunOf named middle) (sym (uses-with set (zone_document zone)))
      (run-renamed named middle (λ u. u.second) (λ u. name_of (u.name.document + 1) u.name.statement) run-middle.passed (granted set ++ denied) (guarded set) refl)

  kept : IsInferred named (outside set zone) None (Ok schema)
  unfolding infer_fault schema_of_run uses_of
  kept = (run-outside.passed, schema-is ∙ sym run-middle.schema ∙ sym run-outside.schema)

pub schemas-kept : KeysHaveTheirRules → ZonesKeepSchemas
schemas-kept rules named schema set zone inferred takes = kept rules named schema set zone inferred takes
