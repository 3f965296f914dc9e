-- A request with one part of another request is valid where both are, and meets in each slot what its parts meet.
use Rattle.std.proofs.Common.{◌≡◌, ◌≢◌, ◌↔◌, ℕ, List, [], ◌∷◌, Bool, true, false, Option, Some, None, refl, ap, sym, subst, ◌∙◌}
use Rattle.std.specs.Prelude.{All, Any, MatchOption, IsSome, if◌then◌else◌, unwrap_or}
use Rattle.std.specs.BTreeMap.{is_at}
use Rattle.std.specs.Cmp.Lexicographic.{slice_cmp}
use Rattle.std.specs.Ordering.{is_eq, nat_cmp}
use Rattle.std.proofs.lemmas.Cmp.{nat_list_cmp_total, tied_itself}
use Rattle.std.proofs.lemmas.List.Elements.{All-cons}
use Rattle.std.proofs.lemmas.Map.Text.{is_eq-slice_cmp}
use Rattle.std.proofs.lemmas.Slice.Eq.{bytes_eq-Decides}
use Rattle.text_table.specs.Table.{Entries, item_at}
use Rattle.policy_model.specs.declared.request.Request.{Request}
use Rattle.policy_model.specs.declared.schema.KeyRule.{KeyRule}
use Rattle.policy_model.specs.declared.schema.Schema.{Schema}
use Rattle.policy_model.specs.declared.test.Slot.{Slot}
use Rattle.policy_model.specs.declared.test.Slot.TheVariants as slot
use Rattle.policy_model.specs.declared.value.Value.{Value}
use Rattle.policy_model.specs.Conds.{CondMeets}
use Rattle.policy_model.specs.Conditions.{values_at}
use Rattle.policy_model.specs.Requests.{EntryIsValid, HasValue, IsThere, IsValid, PermitsValues}
use Rattle.policy_model.proofs.Laws.{values-permitted}
use Rattle.slot_theory.specs.Slots.{SlotIsIn}
use Rattle.strata.specs.declared.predicate.Predicate.{Predicate}
use Rattle.strata.specs.declared.predicate.Predicate.TheVariants.{Every, Principal, Word, Meets}
use Rattle.strata.specs.Predicates.{MeetsPredicate}

-- the request with the part of the other in the slot
abbrev pub with_part : Slot → Request → Request → Request
with_part slot.Principal r q = record r { kind = q.kind; id = q.id }
with_part slot.Action r q = record r { action = q.action }
with_part slot.Resource r q = record r { resource = q.resource }
with_part (slot.Key key) r q = record r { context = (key, values_at q key) ∷ r.context }

abbrev is_key : List ℕ → List ℕ → Bool
is_key key own = is_at (slice_cmp nat_cmp key) own

is_key-same : (key : List ℕ) → is_key key key ≡ true
is_key-same key = ap is_eq (tied_itself nat_list_cmp_total key)

is_key-is : (key own : List ℕ) → is_key key own ≡ true → key ≡ own
is_key-is key own h = (bytes_eq-Decides key own).0 (sym (is_eq-slice_cmp key own) ∙ h)

-- ---- the values of keys

first-item : {V : Type 0} (key : List ℕ) (v : V) (es : Entries V) → item_at key ((key, v) ∷ es) ≡ Some v
first-item key v es = ap (λ (b : Bool). if b then Some v else item_at key es) (is_key-same key)

other-item : {V : Type 0} (own key : List ℕ) (v : V) (es : Entries V) → own ≢ key → item_at own ((key, v) ∷ es) ≡ item_at own es
other-item {V} own key v es differ = by (is_key own key) refl
  where
    by : (b : Bool) → is_key own key ≡ b → item_at own ((key, v) ∷ es) ≡ item_at own es
    by true e = absurd (differ (is_key-is own key e))
    by false e = ap (λ (b : Bool). if b then Some v else item_at own es) e

own-values : (key : List ℕ) (r q : Request) → values_at (with_part (slot.Key key) r q) key ≡ values_at q key
own-values key r q = ap (λ (o : Option (List Value)). unwrap_or o []) (first-item key (values_at q key) r.context)

other-values : (own key : List ℕ) (r q : Request) → own ≢ key → values_at (with_part (slot.Key key) r q) own ≡ values_at r own
other-values own key r q differ = ap (λ (o : Option (List Value)). unwrap_or o []) (other-item own key (values_at q key) r.context differ)

-- ---- valid

some-values : (o : Option (List Value)) → MatchOption o ⊥ (λ vs. vs ≢ []) → unwrap_or o [] ≢ []
some-values None h = absurd h
some-values (Some vs) h = h

has-own : (key : List ℕ) (r q : Request) → HasValue q.context key → HasValue ((key, values_at q key) ∷ r.context) key
has-own key r q has =
    subst (λ (o : Option (List Value)). MatchOption o ⊥ (λ vs. vs ≢ [])) (sym (first-item key (values_at q key) r.context)) (some-values (item_at key q.context) has)

has-value : (own key : List ℕ) (r q : Request) → HasValue r.context own → HasValue q.context own → HasValue ((key, values_at q key) ∷ r.context) own
has-value own key r q here there = by (is_key own key) refl
  where
    by : (b : Bool) → is_key own key ≡ b → HasValue ((key, values_at q key) ∷ r.context) own
    by true e =
        let same : key ≡ own = sym (is_key-is own key e) in
        subst (λ (k : List ℕ). HasValue ((key, values_at q key) ∷ r.context) k) same (has-own key r q (subst (HasValue q.context) (sym same) there))
    by false e =
        subst (λ (o : Option (List Value)). MatchOption o ⊥ (λ vs. vs ≢ [])) (sym (ap (λ (b : Bool). if b then Some (values_at q key) else item_at own r.context) e)) here

permitted-at : (schema : Schema) (q : Request) (key : List ℕ) (o : Option KeyRule) → item_at key schema.keys ≡ o → IsSome o → IsValid schema q → MatchOption o ⊥ (λ rule. PermitsValues rule (values_at q key))
permitted-at schema q key None e some valid = absurd (cc)
permitted-at schema q key (Some rule) e some valid = values-permitted schema q key rule valid e

both-there : (keys : Entries KeyRule) (key : List ℕ) (r q : Request) → All (IsThere r.context) keys → All (IsThere q.context) keys → All (IsThere ((key, values_at q key) ∷ r.context)) keys
both-there keys key r q here there = λ i d within required. has-value _ key r q (here i d within required) (there i d within required)

pub valid-part : (schema : Schema) (s : Slot) (r q : Request) → SlotIsIn schema s → IsValid schema r → IsValid schema q → IsValid schema (with_part s r q)
valid-part schema slot.Principal r q known is_r is_q = record {
  words = record { id = is_q.words.id; action = is_r.words.action; resource = is_r.words.resource };
  keys = is_r.keys;
}
valid-part schema slot.Action r q known is_r is_q = record {
  words = record { id = is_r.words.id; action = is_q.words.action; resource = is_r.words.resource };
  keys = is_r.keys;
}
valid-part schema slot.Resource r q known is_r is_q = record {
  words = record { id = is_r.words.id; action = is_r.words.action; resource = is_q.words.resource };
  keys = is_r.keys;
}
valid-part schema (slot.Key key) r q known is_r is_q = record {
  words = record { id = is_r.words.id; action = is_r.words.action; resource = is_r.words.resource };
  keys = record {
    each = All-cons (EntryIsValid schema.keys) (key, values_at q key) r.context (permitted-at schema q key (item_at key schema.keys) refl known is_q) is_r.keys.each;
    required = both-there schema.keys key r q is_r.keys.required is_q.keys.required;
  };
}

-- ---- met

pub meets-own : (s : Slot) (p : Predicate) (r q : Request) → (MeetsPredicate s p (with_part s r q) ↔ MeetsPredicate s p q)
meets-own slot.Principal Every r q = (λ h. tt, λ h. tt)
meets-own slot.Action Every r q = (λ h. tt, λ h. tt)
meets-own slot.Resource Every r q = (λ h. tt, λ h. tt)
meets-own (slot.Key key) Every r q = (λ h. tt, λ h. tt)
meets-own slot.Principal (Principal entry) r q = (λ h. h, λ h. h)
meets-own slot.Action (Principal entry) r q = (λ h. h, λ h. h)
meets-own slot.Resource (Principal entry) r q = (λ h. h, λ h. h)
meets-own (slot.Key key) (Principal entry) r q = (λ h. h, λ h. h)
meets-own slot.Principal (Word pattern) r q = (λ h. h, λ h. h)
meets-own slot.Action (Word pattern) r q = (λ h. h, λ h. h)
meets-own slot.Resource (Word pattern) r q = (λ h. h, λ h. h)
meets-own (slot.Key key) (Word pattern) r q = (λ h. h, λ h. h)
meets-own slot.Principal (Meets c) r q = (λ h. h, λ h. h)
meets-own slot.Action (Meets c) r q = (λ h. h, λ h. h)
meets-own slot.Resource (Meets c) r q = (λ h. h, λ h. h)
meets-own (slot.Key key) (Meets c) r q = (
  λ h. subst (λ (vs : List Value). Any (λ v. CondMeets v c) vs) (own-values key r q) h,
  λ h. subst (λ (vs : List Value). Any (λ v. CondMeets v c) vs) (sym (own-values key r q)) h,
)

pub meets-other : (s t : Slot) (p : Predicate) (r q : Request) → s ≢ t → (MeetsPredicate t p (with_part s r q) ↔ MeetsPredicate t p r)
meets-other s t Every r q differ = (λ h. tt, λ h. tt)
meets-other slot.Principal slot.Principal (Principal entry) r q differ = absurd (differ refl)
meets-other slot.Action slot.Principal (Principal entry) r q differ = (λ h. h, λ h. h)
meets-other slot.Resource slot.Principal (Principal entry) r q differ = (λ h. h, λ h. h)
meets-other (slot.Key key) slot.Principal (Principal entry) r q differ = (λ h. h, λ h. h)
meets-other s slot.Action (Principal entry) r q differ = (λ h. absurd h, λ h. absurd h)
meets-other s slot.Resource (Principal entry) r q differ = (λ h. absurd h, λ h. absurd h)
meets-other s (slot.Key own) (Principal entry) r q differ = (λ h. absurd h, λ h. absurd h)
meets-other s slot.Principal (Word pattern) r q differ = (λ h. absurd h, λ h. absurd h)
meets-other slot.Principal slot.Action (Word pattern) r q differ = (λ h. h, λ h. h)
meets-other slot.Action slot.Action (Word pattern) r q differ = absurd (differ refl)
meets-other slot.Resource slot.Action (Word pattern) r q differ = (λ h. h, λ h. h)
meets-other (slot.Key key) slot.Action (Word pattern) r q differ = (λ h. h, λ h. h)
meets-other slot.Principal slot.Resource (Word pattern) r q differ = (λ h. h, λ h. h)
meets-other slot.Action slot.Resource (Word pattern) r q differ = (λ h. h, λ h. h)
meets-other slot.Resource slot.Resource (Word pattern) r q differ = absurd (differ refl)
meets-other (slot.Key key) slot.Resource (Word pattern) r q differ = (λ h. h, λ h. h)
meets-other s (slot.Key own) (Word pattern) r q differ = (λ h. absurd h, λ h. absurd h)
meets-other s slot.Principal (Meets c) r q differ = (λ h. absurd h, λ h. absurd h)
meets-other s slot.Action (Meets c) r q differ = (λ h. absurd h, λ h. absurd h)
meets-other s slot.Resource (Meets c) r q differ = (λ h. absurd h, λ h. absurd h)
meets-other slot.Principal (slot.Key own) (Meets c) r q differ = (λ h. h, λ h. h)
meets-other slot.Action (slot.Key own) (Meets c) r q differ = (λ h. h, λ h. h)
meets-other slot.Resource (slot.Key own) (Meets c) r q differ = (λ h. h, λ h. h)
meets-other (slot.Key key) (slot.Key own) (Meets c) r q differ =
    let e = other-values own key r q (λ same. differ (ap slot.Key (sym same))) in (
      λ h. subst (λ (vs : List Value). Any (λ v. CondMeets v c) vs) e h,
      λ h. subst (λ (vs : List Value). Any (λ v. CondMeets v c) vs) (sym e) h,
    )
