-- A condition that is written for what is asked of a key holds exactly where some value of the key meets it.
use Rattle.std.proofs.Common.{◌≡◌, ◌≤◌, ◌⊎◌, ◌↔◌, ℕ, List, [], ◌∷◌, map, length, Bool, true, false, Any, Option, Some, None, option_map, unwrap_or, refl, ap, sym, subst, inl, inr, ◌∙◌, arith, if◌then◌else◌}
use Rattle.std.specs.Prelude.{IsTrue, MatchBool, MatchOption}
use Rattle.std.specs.List.{list_any}
use Rattle.text_table.specs.Table.{item_at}
use Rattle.intervals.specs.declared.compare.Compare as compare
use Rattle.intervals.specs.declared.compare.Compare.TheVariants as how
use Rattle.policy_model.specs.declared.cond.Cond.{Cond}
use Rattle.policy_model.specs.declared.cond.Cond.TheVariants.{Matches, Compares, Inside, Flag, Equals}
use Rattle.policy_model.specs.declared.operator.Base.{Base}
use Rattle.policy_model.specs.declared.operator.Base.TheVariants as base
use Rattle.policy_model.specs.declared.operator.Condition.{Condition}
use Rattle.policy_model.specs.declared.operator.Quantifier.TheVariants.{Plain, ForAny}
use Rattle.policy_model.specs.declared.request.Request.{Request}
use Rattle.policy_model.specs.declared.schema.KeyRule.{KeyRule}
use Rattle.policy_model.specs.declared.schema.Schema.{Schema}
use Rattle.policy_model.specs.declared.value.Kind.{Kind}
use Rattle.policy_model.specs.declared.value.Kind.TheVariants as kind
use Rattle.policy_model.specs.declared.value.Value.{Value}
use Rattle.policy_model.specs.declared.value.Value.TheVariants as value
use Rattle.policy_model.specs.Conditions.{ConditionHolds, OneMatches, OperatorHolds, Quantified, ValueMatches, ValuesMatch, kind_at, values_at}
use Rattle.policy_model.specs.Conds.{CondMeets, IsCondOf, MeetsSome, cond_kind}
use Rattle.policy_model.specs.Operators.{cond_of, compare_of, is_negated, is_null}
use Rattle.policy_model.specs.Requests.{IsValid}
use Rattle.policy_model.specs.Soundness.{IsKeyWith}
use Rattle.policy_model.proofs.Laws.{Any-here, Any-later, Any-nil, Any-split, values-permitted}
use Rattle.findings.specs.Texts.{is_narrow_wildcard, takes_either_case}
use Rattle.policy_emit.specs.Emitted.{cond_base, cond_operands, condition_on, has_several, key_quantifier, numeric_base}

-- ---- the operators

-- it asks for values, and isn't negated
record IsPlainBase (b : Base) : Type 0 where
  asks : is_null b ≡ false
  plain : is_negated b ≡ false

pattern-plain : (narrow either : Bool) → IsPlainBase (if narrow then base.ArnLike else (if either then base.StringEqualsIgnoreCase else base.StringLike))
pattern-plain true either = record { asks = refl; plain = refl }
pattern-plain false true = record { asks = refl; plain = refl }
pattern-plain false false = record { asks = refl; plain = refl }

numeric-plain : (c : compare.Compare) → IsPlainBase (numeric_base c)
numeric-plain how.Equal = record { asks = refl; plain = refl }
numeric-plain how.Less = record { asks = refl; plain = refl }
numeric-plain how.LessOrEqual = record { asks = refl; plain = refl }
numeric-plain how.Greater = record { asks = refl; plain = refl }
numeric-plain how.GreaterOrEqual = record { asks = refl; plain = refl }

cond-plain : (c : Cond) → IsPlainBase (cond_base c)
cond-plain (Matches p) = pattern-plain (list_any is_narrow_wildcard p) (list_any takes_either_case p)
cond-plain (Compares c bound) = numeric-plain c
cond-plain (Inside block) = record { asks = refl; plain = refl }
cond-plain (Flag at_true at_false) = record { asks = refl; plain = refl }
cond-plain (Equals bytes) = record { asks = refl; plain = refl }

compares-same : (c : compare.Compare) → compare_of (numeric_base c) ≡ c
compares-same how.Equal = refl
compares-same how.Less = refl
compares-same how.LessOrEqual = refl
compares-same how.Greater = refl
compares-same how.GreaterOrEqual = refl

-- ---- one value

abbrev Asks : Kind → Cond → Value → Type 0
Asks k c v = MeetsSome (map (cond_of k (cond_base c)) (cond_operands c)) v

one : (P : Cond → Type 0) (c : Cond) → Any P (c ∷ []) ↔ P c
one P c = (λ h. elim (Any-split P c [] h) [ inl own ↦ own | inr later ↦ absurd (Any-nil P later) ], λ h. Any-here P c [] h)

one-as : (P : Cond → Type 0) (c d : Cond) → d ≡ c → Any P (d ∷ []) ↔ P c
one-as P c d same = subst (λ (e : Cond). Any P (d ∷ []) ↔ P e) same (one P d)

two : (P : Cond → Type 0) (c d : Cond) → Any P (c ∷ d ∷ []) ↔ (P c ⊎ P d)
two P c d = (
  λ h. elim (Any-split P c (d ∷ []) h) [ inl own ↦ inl own | inr later ↦ inr ((one P d).0 later) ],
  λ h. elim h [ inl own ↦ Any-here P c (d ∷ []) own | inr later ↦ Any-later P c (d ∷ []) ((one P d).1 later) ],
)

either-flag : (v : Value) → (CondMeets v (Flag true false) ⊎ CondMeets v (Flag false true)) ↔ CondMeets v (Flag true true)
either-flag (value.Truth true) = (λ h. refl, λ h. inl refl)
either-flag (value.Truth false) = (λ h. refl, λ h. inr refl)
either-flag (value.Word t) = (λ h. elim h [ inl x ↦ x | inr x ↦ x ], λ h. absurd h)
either-flag (value.Number n) = (λ h. elim h [ inl x ↦ x | inr x ↦ x ], λ h. absurd h)
either-flag (value.Address a) = (λ h. elim h [ inl x ↦ x | inr x ↦ x ], λ h. absurd h)
either-flag (value.Bytes bs) = (λ h. elim h [ inl x ↦ x | inr x ↦ x ], λ h. absurd h)

no-flag : (v : Value) → CondMeets v (Flag false false) → ⊥
no-flag (value.Truth true) h = absurd (cc)
no-flag (value.Truth false) h = absurd (cc)
no-flag (value.Word t) h = h
no-flag (value.Number n) h = h
no-flag (value.Address a) h = h
no-flag (value.Bytes bs) h = h

flag-asks : (at_true at_false : Bool) (v : Value) → Asks kind.Truth (Flag at_true at_false) v ↔ CondMeets v (Flag at_true at_false)
flag-asks true true v =
    let both = two (CondMeets v) (Flag true false) (Flag false true) in
    let either = either-flag v in
    (λ h. either.0 (both.0 h), λ h. both.1 (either.1 h))
flag-asks true false v = one (CondMeets v) (Flag true false)
flag-asks false true v = one (CondMeets v) (Flag false true)
flag-asks false false v = (λ h. absurd (Any-nil (CondMeets v) h), λ h. absurd (no-flag v h))

asks : (c : Cond) (v : Value) → Asks (cond_kind c) c v ↔ CondMeets v c
asks (Matches p) v = one (CondMeets v) (Matches p)
asks (Compares c bound) v = one-as (CondMeets v) (Compares c bound) (Compares (compare_of (numeric_base c)) bound) (ap (λ (d : compare.Compare). Compares d bound) (compares-same c))
asks (Inside block) v = one (CondMeets v) (Inside block)
asks (Flag at_true at_false) v = flag-asks at_true at_false v
asks (Equals bytes) v = one (CondMeets v) (Equals bytes)

-- ---- all values

module _ (P Q : Value → Type 0) (same : (v : Value) → P v ↔ Q v) where
  some-same : (vs : List Value) → Any P vs ↔ Any Q vs
  some-same [] = (λ h. absurd (Any-nil P h), λ h. absurd (Any-nil Q h))
  some-same (v ∷ vs) = (
    λ h. elim (Any-split P v vs h) [ inl own ↦ Any-here Q v vs ((same v).0 own) | inr later ↦ Any-later Q v vs ((some-same vs).0 later) ],
    λ h. elim (Any-split Q v vs h) [ inl own ↦ Any-here P v vs ((same v).1 own) | inr later ↦ Any-later P v vs ((some-same vs).1 later) ],
  )

  -- a key with at most one value
  single-same : (vs : List Value) → length vs ≤ 1 → OneMatches false P vs ↔ Any Q vs
  single-same [] few = (λ h. absurd (cc), λ h. absurd (Any-nil Q h))
  single-same (v ∷ []) few = (
    λ h. Any-here Q v [] ((same v).0 h),
    λ h. elim (Any-split Q v [] h) [ inl own ↦ (same v).1 own | inr later ↦ absurd (Any-nil Q later) ],
  )
  single-same (v ∷ w ∷ vs) few = absurd (omega (arith, few))

  quantified-same : (many : Bool) (vs : List Value) → ((many ≡ true) ⊎ (length vs ≤ 1)) → Quantified (if many then ForAny else Plain) false P vs ↔ Any Q vs
  quantified-same true vs count = some-same vs
  quantified-same false vs count = single-same vs (elim count [ inl e ↦ absurd (cc) | inr few ↦ few ])

by-null : (b : Bool) (P Q : Type 0) → b ≡ false → MatchBool b P Q ↔ Q
by-null false P Q e = (λ h. h, λ h. h)
by-null true P Q e = absurd (cc)

not-absent : (P Q : Type 0) → ((IsTrue false × P) ⊎ Q) ↔ Q
not-absent P Q = (λ h. elim h [ inl absent ↦ (let wrong = absent.0 in absurd (cc)) | inr own ↦ own ], λ h. inr h)

value-same : (k : Kind) (negated : Bool) (c : Cond) (v : Value) → negated ≡ false → cond_kind c ≡ k → MatchBool negated (¬ Asks k c v) (Asks k c v) ↔ CondMeets v c
value-same k true c v e is = absurd (cc)
value-same k false c v e is = subst (λ (j : Kind). Asks j c v ↔ CondMeets v c) is (asks c v)

-- ---- the condition

module _ (schema : Schema) (r : Request) (valid : IsValid schema r) (key : List ℕ) (c : Cond) where
  abbrev own : Condition
  own = condition_on schema key c

  under-rule : (found : Option KeyRule) → item_at key schema.keys ≡ found → MatchOption found ⊥ (λ rule. IsCondOf rule.kind c) → ConditionHolds schema r own ↔ Any (λ v. CondMeets v c) (values_at r key)
  under-rule None is suits = absurd suits
  under-rule (Some rule) is suits =
      let vs = values_at r key in
      let kind_is : cond_kind c ≡ kind_at schema key = suits ∙ sym (ap (λ (o : Option KeyRule). unwrap_or (option_map (λ (q : KeyRule). q.kind) o) kind.Text) is) in
      let many_is : rule.many ≡ has_several schema key = sym (ap (λ (o : Option KeyRule). unwrap_or (option_map (λ (q : KeyRule). q.many) o) false) is) in
      let count : (has_several schema key ≡ true) ⊎ (length vs ≤ 1) = subst (λ (b : Bool). (b ≡ true) ⊎ (length vs ≤ 1)) many_is (values-permitted schema r key rule valid is).count in
      let plain = cond-plain c in
      let each = λ (v : Value). value-same (kind_at schema key) (is_negated (cond_base c)) c v plain.plain kind_is in
      let quantified : Quantified (key_quantifier schema key) false (ValueMatches (kind_at schema key) own) vs ↔ Any (λ v. CondMeets v c) vs =
      quantified-same (ValueMatches (kind_at schema key) own) (λ v. CondMeets v c) each (has_several schema key) vs count in
      let values : ValuesMatch (kind_at schema key) own vs ↔ Any (λ v. CondMeets v c) vs =
      subst (λ (b : Bool). Quantified (key_quantifier schema key) b (ValueMatches (kind_at schema key) own) vs ↔ Any (λ v. CondMeets v c) vs) (sym plain.plain) quantified in
      let operator = by-null (is_null (cond_base c)) _ (ValuesMatch (kind_at schema key) own vs) plain.asks in
      let present = not-absent (vs ≡ []) (OperatorHolds (kind_at schema key) own vs) in
      (λ h. values.0 (operator.0 (present.0 h)), λ h. present.1 (operator.1 (values.1 h)))

  pub condition-meets : IsKeyWith schema (λ rule. IsCondOf rule.kind c) key → ConditionHolds schema r own ↔ Any (λ v. CondMeets v c) (values_at r key)
  condition-meets suits = under-rule (item_at key schema.keys) refl suits
