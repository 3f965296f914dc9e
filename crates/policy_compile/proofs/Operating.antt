-- What the plans of conditions say of a request.
use Rattle.std.proofs.Common.{◌≡◌, ◌≤◌, List, [], ◌∷◌, length, Bool, true, false, refl, arith, inl, inr}
use Rattle.std.specs.Prelude.{◌↔◌, ◌⊎◌, ◌≢◌, IsTrue, All, Any, MatchBool, if◌then◌else◌}
use Rattle.std.proofs.lemmas.List.Elements.{All-cons, All-nil, All-head, All-tail}
use Rattle.policy_model.specs.Conds.{CondMeets, MeetsSome}
use Rattle.policy_model.specs.Conditions.{ConditionHolds, NullHolds, OneMatches, OperatorHolds, Quantified, ValuesMatch, conds_of, kind_at, values_at}
use Rattle.policy_model.specs.Operators.{cond_of, is_negated, is_null}
use Rattle.policy_model.specs.declared.operator.Condition.{Condition}
use Rattle.policy_model.specs.declared.operator.Operand.{Operand}
use Rattle.policy_model.specs.declared.operator.Operand.TheVariants as operand
use Rattle.policy_model.specs.declared.operator.Quantifier.{Quantifier}
use Rattle.policy_model.specs.declared.operator.Quantifier.TheVariants.{Plain, ForAll, ForAny}
use Rattle.policy_model.specs.declared.request.Request.{Request}
use Rattle.policy_model.specs.declared.schema.Schema.{Schema}
use Rattle.policy_model.specs.declared.value.Kind.{Kind}
use Rattle.policy_model.specs.declared.value.Value.{Value}
use Rattle.policy_model.proofs.Laws.{Any-here, Any-later, Any-map, Any-nil, Any-split, has-value-some, meets-some-decided}
use Rattle.policy_compile.specs.Conditions.{absent_plan, condition_plan, conditions_plan, group_plan, meets_plan, meets_plans, null_plan, null_plans, operator_groups, operator_plan, optional_plans, presence_plan, present_plan, quantified_plan}
use Rattle.policy_compile.specs.Plans.{PlanHolds, SomeHolds, of_plans, one_of}
use Rattle.policy_compile.proofs.Grouping.{groups-all}
use Rattle.policy_compile.proofs.Items.{Any-same, each-items-where, some-items, some-single}

-- ---- some, each and none of a list

both : {P Q R : Type 0} → (P ↔ Q) → (Q ↔ R) → (P ↔ R)
both h k = (λ p. k.0 (h.0 p), λ r. h.1 (k.1 r))

-- two questions that change places
Any-swap : {V C : Type 0} (M : V → C → Type 0) (vs : List V) (cs : List C) → (Any (λ c. Any (λ v. M v c) vs) cs ↔ Any (λ v. Any (M v) cs) vs)
Any-swap M vs cs = (
  λ h. let inside = h.4 in (inside.0, inside.1, inside.2, inside.3, (h.0, h.1, h.2, h.3, inside.4)),
  λ h. let inside = h.4 in (inside.0, inside.1, inside.2, inside.3, (h.0, h.1, h.2, h.3, inside.4)),
)

none-each : {V : Type 0} (P : V → Type 0) (vs : List V) → ((¬ Any P vs) ↔ All (λ v. ¬ P v) vs)
none-each P [] = (λ n. All-nil (λ v. ¬ P v), λ h. Any-nil P)
none-each P (v ∷ vs) = (
  λ n. All-cons (λ w. ¬ P w) v vs (λ p. n (Any-here P v vs p)) ((none-each P vs).0 (λ later. n (Any-later P v vs later))),
  λ h any. elim (Any-split P v vs any) [ inl here ↦ All-head (λ w. ¬ P w) v vs h here | inr later ↦ (none-each P vs).1 (All-tail (λ w. ¬ P w) v vs h) later ],
)

-- where it is decided, nothing that doesn't hold is the same as each that holds
decided-each : {V : Type 0} (P : V → Type 0) → ((v : V) → P v ⊎ ¬ P v) → (vs : List V) → ((¬ Any (λ v. ¬ P v) vs) ↔ All P vs)
decided-each P decided [] = (λ n. All-nil P, λ h. Any-nil (λ v. ¬ P v))
decided-each P decided (v ∷ vs) = (
  λ n. All-cons P v vs (elim (decided v) [ inl p ↦ p | inr not_p ↦ absurd (n (Any-here (λ w. ¬ P w) v vs not_p)) ]) ((decided-each P decided vs).0 (λ later. n (Any-later (λ w. ¬ P w) v vs later))),
  λ h any. elim (Any-split (λ w. ¬ P w) v vs any) [ inl here ↦ here (All-head P v vs h) | inr later ↦ (decided-each P decided vs).1 (All-tail P v vs h) later ],
)

-- ---- the four cases of a prefix, over what a value matches

some-one : (Q : Value → Type 0) (vs : List Value) → length vs ≤ 1 → (Any Q vs ↔ OneMatches false Q vs)
some-one Q [] few = (λ h. absurd (Any-nil Q h), λ h. absurd (cc))
some-one Q (v ∷ []) few = (λ h. elim (Any-split Q v [] h) [ inl here ↦ here | inr later ↦ absurd (Any-nil Q later) ], λ h. Any-here Q v [] h)
some-one Q (v ∷ w ∷ vs) few = absurd (omega (arith, few))

none-one : (Q : Value → Type 0) (vs : List Value) → length vs ≤ 1 → ((¬ Any Q vs) ↔ OneMatches true (λ v. ¬ Q v) vs)
none-one Q [] few = (λ n. refl, λ e. Any-nil Q)
none-one Q (v ∷ []) few = (
  λ n q. n (Any-here Q v [] q),
  λ n any. elim (Any-split Q v [] any) [ inl here ↦ n here | inr later ↦ Any-nil Q later ],
)
none-one Q (v ∷ w ∷ vs) few = absurd (omega (arith, few))

not-both : {P Q : Type 0} → (P ↔ Q) → ((¬ P) ↔ (¬ Q))
not-both h = (λ n q. n (h.1 q), λ n p. n (h.0 p))

-- ---- one key of an operator

-- some value meets what some value of the policy asks
some_meets-holds : (r : Request) (k : Kind) (c : Condition) → (SomeHolds r (of_plans (meets_plans k c)) ↔ Any (MeetsSome (conds_of k c)) (values_at r c.key))
some_meets-holds r k c =
    let asked = cond_of k c.operator.base in
    let vs = values_at r c.key in
    both (some-items r (λ o. meets_plan k c o ∷ []) (λ o. Any (λ v. CondMeets v (asked o)) vs) (λ o. some-single r (meets_plan k c o)) c.values)
    (both (Any-swap (λ v o. CondMeets v (asked o)) vs c.values)
    (Any-same (λ v. Any (λ o. CondMeets v (asked o)) c.values) (MeetsSome (conds_of k c)) vs (λ v. let mapped = Any-map (CondMeets v) asked c.values in (mapped.1, mapped.0))))

-- a value matches, where it meets some of what is asked or none of it
abbrev Matching : Bool → Kind → Condition → Value → Type 0
Matching negated k c v = MatchBool negated (¬ MeetsSome (conds_of k c) v) (MeetsSome (conds_of k c) v)

quantified-holds : (r : Request) (k : Kind) (c : Condition) (q : Quantifier) (negated : Bool) → (q ≡ Plain → length (values_at r c.key) ≤ 1) →
    (PlanHolds r (quantified_plan q negated k c) ↔ Quantified q negated (Matching negated k c) (values_at r c.key))
quantified-holds r k c Plain false few = both (some_meets-holds r k c) (some-one (MeetsSome (conds_of k c)) (values_at r c.key) (few refl))
quantified-holds r k c Plain true few = both (not-both (some_meets-holds r k c)) (none-one (MeetsSome (conds_of k c)) (values_at r c.key) (few refl))
quantified-holds r k c ForAll false few = decided-each (MeetsSome (conds_of k c)) (meets-some-decided (conds_of k c)) (values_at r c.key)
quantified-holds r k c ForAll true few = both (not-both (some_meets-holds r k c)) (none-each (MeetsSome (conds_of k c)) (values_at r c.key))
quantified-holds r k c ForAny false few = some_meets-holds r k c
quantified-holds r k c ForAny true few = (λ h. h, λ h. h)

-- a list has an item, or none
empty-or-not : (vs : List Value) → ¬ (vs ≢ []) → vs ≡ []
empty-or-not [] n = refl
empty-or-not (v ∷ vs) n = absurd (n (λ e. absurd (cc)))

present-holds : (r : Request) (c : Condition) → (PlanHolds r (present_plan c) ↔ (values_at r c.key ≢ []))
present-holds r c = has-value-some r c.key

absent-holds : (r : Request) (c : Condition) → (PlanHolds r (absent_plan c) ↔ (values_at r c.key ≡ []))
absent-holds r c = (
  λ n. empty-or-not (values_at r c.key) (λ some. n ((present-holds r c).1 some)),
  λ e h. (present-holds r c).0 h e,
)

presence-holds : (r : Request) (c : Condition) (is_absent : Bool) → (PlanHolds r (presence_plan c is_absent) ↔ NullHolds (values_at r c.key) (operand.Truth is_absent))
presence-holds r c true = absent-holds r c
presence-holds r c false = present-holds r c

nothing-asked : (r : Request) → (SomeHolds r (of_plans []) ↔ ⊥)
nothing-asked r = (λ h. h, λ h. h)

null-operand-holds : (r : Request) (c : Condition) (o : Operand) → (SomeHolds r (of_plans (null_plans c o)) ↔ NullHolds (values_at r c.key) o)
null-operand-holds r c (operand.Truth is_absent) = both (some-single r (presence_plan c is_absent)) (presence-holds r c is_absent)
null-operand-holds r c (operand.Pattern p) = nothing-asked r
null-operand-holds r c (operand.Number n) = nothing-asked r
null-operand-holds r c (operand.Block block) = nothing-asked r
null-operand-holds r c (operand.Bytes bytes) = nothing-asked r

null-holds : (r : Request) (c : Condition) → (PlanHolds r (null_plan c) ↔ Any (NullHolds (values_at r c.key)) c.values)
null-holds r c = some-items r (null_plans c) (NullHolds (values_at r c.key)) (λ o. null-operand-holds r c o) c.values

-- without a prefix there is at most one value
abbrev pub AtMostOne : Condition → List Value → Type 0
AtMostOne c vs = is_null c.operator.base ≡ false → c.operator.quantifier ≡ Plain → length vs ≤ 1

operator-by : (r : Request) (k : Kind) (c : Condition) (n : Bool) → is_null c.operator.base ≡ n → AtMostOne c (values_at r c.key) →
    (PlanHolds r (if n then null_plan c else quantified_plan c.operator.quantifier (is_negated c.operator.base) k c) ↔ MatchBool n (Any (NullHolds (values_at r c.key)) c.values) (ValuesMatch k c (values_at r c.key)))
operator-by r k c true is few = null-holds r c
operator-by r k c false is few = quantified-holds r k c c.operator.quantifier (is_negated c.operator.base) (few is)

operator-holds : (r : Request) (k : Kind) (c : Condition) → AtMostOne c (values_at r c.key) → (PlanHolds r (operator_plan k c) ↔ OperatorHolds k c (values_at r c.key))
operator-holds r k c few = operator-by r k c (is_null c.operator.base) refl few

condition-by : (r : Request) (k : Kind) (c : Condition) (optional : Bool) → AtMostOne c (values_at r c.key) →
    (PlanHolds r (if optional then one_of (of_plans (optional_plans k c)) else operator_plan k c) ↔ ((IsTrue optional × (values_at r c.key ≡ [])) ⊎ OperatorHolds k c (values_at r c.key)))
condition-by r k c true few = (
  λ h. elim h [ inl gone ↦ inl (refl, (absent-holds r c).0 gone) | inr rest ↦ inr ((operator-holds r k c few).0 ((some-single r (operator_plan k c)).0 rest)) ],
  λ h. elim h [ inl gone ↦ inl ((absent-holds r c).1 gone.1) | inr met ↦ inr (inl ((operator-holds r k c few).1 met)) ],
)
condition-by r k c false few = (
  λ h. inr ((operator-holds r k c few).0 h),
  λ h. elim h [ inl gone ↦ absurd (cc (gone.0)) | inr met ↦ (operator-holds r k c few).1 met ],
)

pub condition-holds : (schema : Schema) (r : Request) (c : Condition) → AtMostOne c (values_at r c.key) → (PlanHolds r (condition_plan schema c) ↔ ConditionHolds schema r c)
condition-holds schema r c few = condition-by r (kind_at schema c.key) c c.operator.if_exists few

-- ---- the conditions of a statement

-- each condition has at most one value where it has no prefix
abbrev pub Single : Request → Condition → Type 0
Single r c = AtMostOne c (values_at r c.key)

group-holds : (schema : Schema) (r : Request) (group : List Condition) → All (Single r) group → (PlanHolds r (group_plan schema group) ↔ All (ConditionHolds schema r) group)
group-holds schema r group single =
    each-items-where r (λ c. condition_plan schema c ∷ []) (ConditionHolds schema r) (Single r)
    (λ c few. (λ h. (condition-holds schema r c few).0 h.0, λ h. ((condition-holds schema r c few).1 h, tt))) group single

pub conditions-hold : (schema : Schema) (r : Request) (cs : List Condition) → All (Single r) cs → (PlanHolds r (conditions_plan schema cs) ↔ All (ConditionHolds schema r) cs)
conditions-hold schema r cs single =
    both (each-items-where r (λ group. group_plan schema group ∷ []) (λ group. All (ConditionHolds schema r) group) (λ group. All (Single r) group)
    (λ group few. (λ h. (group-holds schema r group few).0 h.0, λ h. ((group-holds schema r group few).1 h, tt))) (operator_groups cs) ((groups-all (Single r) cs).1 single))
    (groups-all (ConditionHolds schema r) cs)
