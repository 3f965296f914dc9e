-- Tests that lead to one another, or exclude one another, by their parts.
use Rattle.std.proofs.Common.{◌≡◌, ◌≢◌, ◌≤◌, ◌∙◌, ℕ, zero, suc, List, [], ◌∷◌, All, Any, length, arith, refl, sym, subst}
use Rattle.std.specs.Prelude.{MatchOption, Option, Some, None}
use Rattle.std.proofs.lemmas.List.Elements.{All-head}
use Rattle.text_table.specs.Table.{item_at}
use Rattle.text_table.proofs.Laws.{item_at-All}
use Rattle.wildcard_lang.specs.declared.piece.Piece.{Piece}
use Rattle.wildcard_lang.specs.Covering.{Clash, CoversPattern}
use Rattle.wildcard_lang.proofs.Laws.{clashing-apart, covering-includes}
use Rattle.policy_model.specs.declared.cond.Cond.{Cond}
use Rattle.policy_model.specs.declared.principal.Entry.{Entry}
use Rattle.policy_model.specs.declared.request.Request.{Request}
use Rattle.policy_model.specs.declared.schema.KeyRule.{KeyRule}
use Rattle.policy_model.specs.declared.schema.Schema.{Schema}
use Rattle.policy_model.specs.declared.test.Test.{Test}
use Rattle.policy_model.specs.declared.test.Test.TheVariants.{Principal, Action, Resource, Present, SomeMeets, SomeMeetsNone}
use Rattle.policy_model.specs.declared.value.Value.{Value}
use Rattle.policy_model.specs.Conditions.{values_at}
use Rattle.policy_model.specs.Conds.{CondMeets, MeetsSome, SharesNoValue}
use Rattle.policy_model.specs.Principals.{SharesNoPrincipal}
use Rattle.policy_model.specs.Requests.{HasValue, IsThere, IsValid, IsValueOf}
use Rattle.policy_model.specs.Soundness.{IsKeyWith}
use Rattle.policy_model.specs.Tests.{TestHolds}
use Rattle.policy_model.proofs.Laws.{has-value-some, one-value-permitted, values-permitted}
use Rattle.test_relations.specs.Parts.{CondExcludesEach, CondLeads, CondLeadsToSome, EachLeadsToSome, EachValueMeets, EntryLeads, IsRequired, IsSingle, MatchesEach}
use Rattle.test_relations.specs.Relations.{AlwaysHolds, TestExcludes, TestLeads}

-- ---- values of a key

-- some value has what each value with another property has
some-too : (P Q : Value → Type 0) → ((v : Value) → P v → Q v) → (vs : List Value) → Any P vs → Any Q vs
some-too P Q too vs (n, v, within, at, has) = (n, v, within, at, too v has)

-- where some value has a property there is one
some-there : (P : Value → Type 0) (vs : List Value) → Any P vs → vs ≢ []
some-there P [] (n, v, within, at, has) e = absurd (omega (arith, within))
some-there P (w ∷ vs) some e = absurd (cc)

-- of one value at most, none has both of two properties that no value has both
one-value : (P Q : Value → Type 0) → ((v : Value) → P v → ¬ Q v) → (vs : List Value) → length vs ≤ 1 → Any P vs → ¬ Any Q vs
one-value P Q none [] few (n, v, within, at, has) also = absurd (omega (arith, within))
one-value P Q none (w ∷ []) few (zero, v, within, at, has) (zero, u, inside, there, also) =
    none v has (subst Q (sym there ∙ at) also)
one-value P Q none (w ∷ []) few (suc n, v, within, at, has) also = absurd (omega (arith, within))
one-value P Q none (w ∷ []) few (zero, v, within, at, has) (suc m, u, inside, there, also) = absurd (omega (arith, inside))
one-value P Q none (w ∷ x ∷ vs) few some also = absurd (omega (arith, few))

-- a value that meets some of a list meets some of another, where each of the first leads to some of the second
some-leads : (cs ds : List Cond) → EachLeadsToSome cs ds → (v : Value) → MeetsSome cs v → MeetsSome ds v
some-leads cs ds each v (n, c, within, at, meets) = subst (λ (x : Cond). CondLeadsToSome x ds) at (each n c within) v meets

-- a value that meets what excludes each of a list meets none of it
none-of : (c : Cond) (ds : List Cond) → CondExcludesEach c ds → (v : Value) → CondMeets v c → ¬ MeetsSome ds v
none-of c ds each v meets (n, d, within, at, also) = subst (λ (x : Cond). SharesNoValue c x) at (each n d within) v meets also

-- where there is a value and each meets what is asked some does
first-meets : (c : Cond) (rule : KeyRule) → EachValueMeets c rule → (vs : List Value) → vs ≢ [] → All (IsValueOf rule) vs → Any (λ v. CondMeets v c) vs
first-meets c rule each [] some all = absurd (some refl)
first-meets c rule each (v ∷ vs) some all = (0, v, omega arith, refl, each v (All-head (IsValueOf rule) v vs all))

-- ---- tests

module _ (schema : Schema) where
  pub entries-lead : (a b : Entry) → EntryLeads a b → TestLeads schema (Principal a) (Principal b)
  entries-lead a b each r valid holds = each r.kind r.id holds

  pub actions-lead : (p q : List Piece) → CoversPattern q p → TestLeads schema (Action p) (Action q)
  actions-lead p q covers r valid holds = covering-includes q p r.action covers holds

  pub resources-lead : (p q : List Piece) → CoversPattern q p → TestLeads schema (Resource p) (Resource q)
  resources-lead p q covers r valid holds = covering-includes q p r.resource covers holds

  pub some-is-present : (key also : List ℕ) (c : Cond) → key ≡ also → TestLeads schema (SomeMeets key c) (Present also)
  some-is-present key also c is r valid holds =
      subst (HasValue r.context) is ((has-value-some r key).1 (some-there (λ v. CondMeets v c) (values_at r key) holds))

  pub none-is-present : (key also : List ℕ) (cs : List Cond) → key ≡ also → TestLeads schema (SomeMeetsNone key cs) (Present also)
  none-is-present key also cs is r valid holds =
      subst (HasValue r.context) is ((has-value-some r key).1 (some-there (λ v. ¬ MeetsSome cs v) (values_at r key) holds))

  pub present-is-present : (key also : List ℕ) → key ≡ also → TestLeads schema (Present key) (Present also)
  present-is-present key also is r valid holds = subst (HasValue r.context) is holds

  pub some-to-some : (key also : List ℕ) (c d : Cond) → key ≡ also → CondLeads c d → TestLeads schema (SomeMeets key c) (SomeMeets also d)
  some-to-some key also c d is each r valid holds =
      subst (λ k. TestHolds r (SomeMeets k d)) is (some-too (λ v. CondMeets v c) (λ v. CondMeets v d) each (values_at r key) holds)

  pub some-to-none : (key also : List ℕ) (c : Cond) (ds : List Cond) → key ≡ also → CondExcludesEach c ds → TestLeads schema (SomeMeets key c) (SomeMeetsNone also ds)
  some-to-none key also c ds is each r valid holds =
      subst (λ k. TestHolds r (SomeMeetsNone k ds)) is (some-too (λ v. CondMeets v c) (λ v. ¬ MeetsSome ds v) (none-of c ds each) (values_at r key) holds)

  pub none-to-none : (key also : List ℕ) (cs ds : List Cond) → key ≡ also → EachLeadsToSome ds cs → TestLeads schema (SomeMeetsNone key cs) (SomeMeetsNone also ds)
  none-to-none key also cs ds is each r valid holds =
      subst (λ k. TestHolds r (SomeMeetsNone k ds)) is (some-too (λ v. ¬ MeetsSome cs v) (λ v. ¬ MeetsSome ds v) (λ v none some. none (some-leads ds cs each v some)) (values_at r key) holds)

  met-by-rule : (r : Request) (key : List ℕ) (c : Cond) (found : Option KeyRule) → IsValid schema r → item_at key schema.keys ≡ found → MatchOption found ⊥ (EachValueMeets c) → HasValue r.context key → TestHolds r (SomeMeets key c)
  met-by-rule r key c None valid is at has = absurd at
  met-by-rule r key c (Some rule) valid is at has =
      first-meets c rule at (values_at r key) ((has-value-some r key).0 has) (values-permitted schema r key rule valid is).each

  pub present-to-some : (key also : List ℕ) (c : Cond) → key ≡ also → IsKeyWith schema (EachValueMeets c) key → TestLeads schema (Present key) (SomeMeets also c)
  present-to-some key also c is each r valid holds =
      subst (λ k. TestHolds r (SomeMeets k c)) is (met-by-rule r key c (item_at key schema.keys) valid refl each holds)

  -- the same of tests that are equal to these
  pub leads-equal : (one other first second : Test) → one ≡ first → other ≡ second → TestLeads schema first second → TestLeads schema one other
  leads-equal one other first second is has each =
      subst (λ (t : Test). TestLeads schema t other) (sym is) (subst (λ (t : Test). TestLeads schema first t) (sym has) each)

  pub entries-exclude : (a b : Entry) → SharesNoPrincipal a b → TestExcludes schema (Principal a) (Principal b)
  entries-exclude a b none r valid holds = none r.kind r.id holds

  pub actions-exclude : (p q : List Piece) → Clash p q → TestExcludes schema (Action p) (Action q)
  actions-exclude p q clash r valid holds also = clashing-apart p q r.action clash holds also

  pub resources-exclude : (p q : List Piece) → Clash p q → TestExcludes schema (Resource p) (Resource q)
  resources-exclude p q clash r valid holds also = clashing-apart p q r.resource clash holds also

  few : (key : List ℕ) → IsKeyWith schema IsSingle key → (r : Request) → IsValid schema r → length (values_at r key) ≤ 1
  few key once r valid = one-value-permitted schema r key IsSingle (λ rule is. is) valid once

  pub some-excludes-some : (key also : List ℕ) (c d : Cond) → key ≡ also → SharesNoValue c d → IsKeyWith schema IsSingle key → TestExcludes schema (SomeMeets key c) (SomeMeets also d)
  some-excludes-some key also c d is none once r valid holds has =
      one-value (λ v. CondMeets v c) (λ v. CondMeets v d) none (values_at r key) (few key once r valid) holds (subst (λ k. TestHolds r (SomeMeets k d)) (sym is) has)

  pub some-excludes-none : (key also : List ℕ) (c : Cond) (ds : List Cond) → key ≡ also → CondLeadsToSome c ds → IsKeyWith schema IsSingle key → TestExcludes schema (SomeMeets key c) (SomeMeetsNone also ds)
  some-excludes-none key also c ds is some once r valid holds has =
      one-value (λ v. CondMeets v c) (λ v. ¬ MeetsSome ds v) (λ v meets none. none (some v meets)) (values_at r key) (few key once r valid) holds
      (subst (λ k. TestHolds r (SomeMeetsNone k ds)) (sym is) has)

  pub turned : (one other : Test) → TestExcludes schema one other → TestExcludes schema other one
  turned one other none r valid holds also = none r valid also holds

  pub excludes-equal : (one other first second : Test) → one ≡ first → other ≡ second → TestExcludes schema first second → TestExcludes schema one other
  excludes-equal one other first second is has none =
      subst (λ (t : Test). TestExcludes schema t other) (sym is) (subst (λ (t : Test). TestExcludes schema first t) (sym has) none)

  found-there : (r : Request) (key : List ℕ) (found : Option KeyRule) → IsValid schema r → item_at key schema.keys ≡ found → MatchOption found ⊥ IsRequired → HasValue r.context key
  found-there r key None valid is at = absurd at
  found-there r key (Some rule) valid is at = item_at-All (IsThere r.context) key schema.keys rule valid.keys.required is at

  -- a pattern that matches each text of the shape matches the word of each valid request
  pub action-always : (p : List Piece) → MatchesEach p schema.shapes.action → AlwaysHolds schema (Action p)
  action-always p each r valid = each r.action valid.words.action.fits

  pub resource-always : (p : List Piece) → MatchesEach p schema.shapes.resource → AlwaysHolds schema (Resource p)
  resource-always p each r valid = each r.resource valid.words.resource.fits

  pub always-equal : (one first : Test) → one ≡ first → AlwaysHolds schema first → AlwaysHolds schema one
  always-equal one first is each = subst (λ (t : Test). AlwaysHolds schema t) (sym is) each

  -- a required key is always there
  pub required-is-present : (key : List ℕ) → IsKeyWith schema IsRequired key → AlwaysHolds schema (Present key)
  required-is-present key at r valid = found-there r key (item_at key schema.keys) valid refl at

  pub required-to-some : (key : List ℕ) (c : Cond) → IsKeyWith schema IsRequired key → IsKeyWith schema (EachValueMeets c) key → AlwaysHolds schema (SomeMeets key c)
  required-to-some key c at each r valid = present-to-some key key c refl each r valid (required-is-present key at r valid)
