-- Under a sound schema some request is valid: the one of stated words, in which each key has the value that its rule states.
use Rattle.std.proofs.Common.{◌≡◌, ◌≢◌, ℕ, zero, suc, true, List, [], ◌∷◌, Ordering, Less, Equal, Greater, Option, Some, None, IfSome, All, Contains, refl, sym, subst, ◌∙◌, inl, inr, arith}
use Rattle.std.specs.Prelude.{MatchOption}
use Rattle.std.specs.BTreeMap.{is_at}
use Rattle.std.specs.Ordering.{is_eq, nat_cmp, ordering_reverse}
use Rattle.std.specs.Cmp.Lexicographic.{slice_cmp}
use Rattle.std.proofs.lemmas.Bool.{cases_Bool}
use Rattle.std.proofs.lemmas.Cmp.{nat_list_cmp_total}
use Rattle.std.proofs.lemmas.Map.Entries.{All-lookup, lookup_head, lookup_tail}
use Rattle.std.proofs.lemmas.List.Elements.{All-nil, All-cons, All-contains_itself}
use Rattle.text_table.specs.Table.{Entries, item_at}
use Rattle.policy_model.specs.declared.principal.PrincipalKind.TheVariants.{Aws}
use Rattle.policy_model.specs.declared.schema.KeyRule.{KeyRule}
use Rattle.policy_model.specs.declared.value.Value.{Value}
use Rattle.policy_model.specs.declared.value.Value.TheVariants.{Truth}
use Rattle.policy_model.specs.Requests.{EntryIsValid, HasValue, IsThere, IsValueOf, PermitsValues}
use Rattle.policy_model.specs.Soundness.{RuleIsSound}
use Rattle.slot_theory.specs.Unasked.{stated_key, stated_word}
use Rattle.slot_theory.proofs.Laws.{key-permitted, stated-is-word}
use Rattle.request_build.specs.Existence.{SoundSchemasHaveRequests}

-- the stated value of a key is one that its rule permits, whether it is required or not
rule-permits : (rule : KeyRule) → RuleIsSound rule → PermitsValues rule (stated_key rule ∷ [])
rule-permits rule sound = record {
  each = All-cons (IsValueOf rule) (stated_key rule) [] (key-permitted rule sound) (All-nil (IsValueOf rule));
  count = inr (omega arith);
}

-- ---- the context in which each key has a value

self-equal : (o : Ordering) → o ≡ ordering_reverse o → is_eq o ≡ true
self-equal Less e = absurd (cc)
self-equal Equal e = refl
self-equal Greater e = absurd (cc)

own-key : (key : List ℕ) → is_at (slice_cmp nat_cmp key) key ≡ true
own-key key = self-equal (slice_cmp nat_cmp key key) (nat_list_cmp_total.antisymm key key)

-- what a key that has a rule is given
abbrev values_for : Option KeyRule → List Value
values_for None = Truth true ∷ []
values_for (Some rule) = stated_key rule ∷ []

some-values : (o : Option KeyRule) → values_for o ≢ []
some-values None e = absurd (cc)
some-values (Some rule) e = absurd (cc)

module _ (keys : Entries KeyRule) where
  abbrev given : List ℕ → List Value
  given key = values_for (item_at key keys)

  abbrev filled : Entries KeyRule → Entries (List Value)
  filled [] = []
  filled (e ∷ es) = (e.0, given e.0) ∷ filled es

  -- a key of the list has an item in it
  key-found : (es : Entries KeyRule) (e : List ℕ × KeyRule) → Contains es e → item_at e.0 es ≢ None
  key-found [] e among none = omega (arith, among.1)
  key-found (x ∷ xs) e (zero, within, at) none =
      let found = lookup_head (is_at (slice_cmp nat_cmp e.0)) x xs (subst (λ (y : List ℕ × KeyRule). is_at (slice_cmp nat_cmp e.0) y.0 ≡ true) (sym at) (own-key e.0)) in
      absurd (cc)
  key-found (x ∷ xs) e (suc k, within, at) none =
      elim (cases_Bool (is_at (slice_cmp nat_cmp e.0) x.0)) [
        | inl here ↦ let found = lookup_head (is_at (slice_cmp nat_cmp e.0)) x xs here in absurd (cc)
        | inr other ↦ key-found xs e (k, omega (arith, within), at) (sym (lookup_tail (is_at (slice_cmp nat_cmp e.0)) x xs other) ∙ none)
      ]

  key-valued : (es : Entries KeyRule) (e : List ℕ × KeyRule) → Contains es e → HasValue (filled es) e.0
  key-valued [] e among = absurd (omega (arith, among.1))
  key-valued (x ∷ xs) e (zero, within, at) =
      let found = lookup_head (is_at (slice_cmp nat_cmp e.0)) (x.0, given x.0) (filled xs) (subst (λ (y : List ℕ × KeyRule). is_at (slice_cmp nat_cmp e.0) y.0 ≡ true) (sym at) (own-key e.0)) in
      rw found (some-values (item_at x.0 keys))
  key-valued (x ∷ xs) e (suc k, within, at) =
      elim (cases_Bool (is_at (slice_cmp nat_cmp e.0) x.0)) [
        | inl here ↦ rw (lookup_head (is_at (slice_cmp nat_cmp e.0)) (x.0, given x.0) (filled xs) here) (some-values (item_at x.0 keys))
        | inr other ↦ rw (lookup_tail (is_at (slice_cmp nat_cmp e.0)) (x.0, given x.0) (filled xs) other) (key-valued xs e (k, omega (arith, within), at))
      ]

  permitted-by : (o : Option KeyRule) → IfSome o RuleIsSound → o ≢ None → MatchOption o ⊥ (λ rule. PermitsValues rule (values_for o))
  permitted-by None sound some = some refl
  permitted-by (Some rule) sound some = rule-permits rule sound

  module _ (sound : All (λ (e : List ℕ × KeyRule). RuleIsSound e.1) keys) where
    entries-valid : (es : Entries KeyRule) → All (Contains keys) es → All (EntryIsValid keys) (filled es)
    entries-valid [] among = All-nil (EntryIsValid keys)
    entries-valid (e ∷ es) among = All-cons (EntryIsValid keys) (e.0, given e.0) (filled es)
        (permitted-by (item_at e.0 keys) (All-lookup RuleIsSound (is_at (slice_cmp nat_cmp e.0)) keys sound) (key-found keys e (among 0 e (omega arith))))
        (entries-valid es (λ k d within. among (suc k) d (omega (arith, within))))

    each-valid : All (EntryIsValid keys) (filled keys)
    each-valid = entries-valid keys (All-contains_itself keys)

    each-there : All (IsThere (filled keys)) keys
    each-there k d within required = key-valued keys _ (All-contains_itself keys k d within)

pub requests_exist : SoundSchemasHaveRequests
requests_exist schema sound = (
  record {
    kind = Aws;
    id = stated_word schema.shapes.aws;
    action = stated_word schema.shapes.action;
    resource = stated_word schema.shapes.resource;
    context = filled schema.keys schema.keys;
  },
  record {
    words = record {
      id = stated-is-word schema.shapes.aws sound.shapes.aws;
      action = stated-is-word schema.shapes.action sound.shapes.action;
      resource = stated-is-word schema.shapes.resource sound.shapes.resource;
    };
    keys = record { each = each-valid schema.keys sound.rules; required = each-there schema.keys sound.rules };
  },
)
