-- The values that requests give keys.
use Rattle.std.proofs.Common.{◌≡◌, ◌≢◌, ◌≤◌, ◌↔◌, ℕ, List, [], Option, Some, None, length, false, inl, inr, refl, subst, arith}
use Rattle.std.specs.Prelude.{unwrap_or, MatchOption}
use Rattle.std.proofs.lemmas.List.Elements.{All-nil}
use Rattle.text_table.specs.Table.{item_at}
use Rattle.text_table.proofs.Laws.{item_at-All}
use Rattle.policy_model.specs.declared.request.Request.{Request}
use Rattle.policy_model.specs.declared.schema.KeyRule.{KeyRule}
use Rattle.policy_model.specs.declared.schema.Schema.{Schema}
use Rattle.policy_model.specs.declared.value.Value.{Value}
use Rattle.policy_model.specs.Conditions.{values_at}
use Rattle.policy_model.specs.Requests.{EntryIsValid, HasValue, IsValid, IsValueOf, PermitsValues}
use Rattle.policy_model.specs.Soundness.{IsKeyWith}

some-given : (given : Option (List Value)) → MatchOption given ⊥ (λ values. values ≢ []) ↔ (unwrap_or given [] ≢ [])
some-given None = (λ h. absurd h, λ h. absurd (h refl))
some-given (Some values) = (λ h. h, λ h. h)

pub has-value-some : (r : Request) (key : List ℕ) → HasValue r.context key ↔ (values_at r key ≢ [])
has-value-some r key = some-given (item_at key r.context)

no-values : (rule : KeyRule) → PermitsValues rule []
no-values rule = record { each = All-nil (IsValueOf rule); count = inr (omega arith) }

by-rule : (rule : KeyRule) (found : Option KeyRule) (values : List Value) → found ≡ Some rule → MatchOption found ⊥ (λ own. PermitsValues own values) → PermitsValues rule values
by-rule rule found values e h = subst (λ (o : Option KeyRule). MatchOption o ⊥ (λ own. PermitsValues own values)) e h

permitted : (schema : Schema) (r : Request) (key : List ℕ) (rule : KeyRule) (given : Option (List Value)) → IsValid schema r → item_at key schema.keys ≡ Some rule → item_at key r.context ≡ given → PermitsValues rule (unwrap_or given [])
permitted schema r key rule None valid e f = no-values rule
permitted schema r key rule (Some values) valid e f =
    by-rule rule (item_at key schema.keys) values e (item_at-All (EntryIsValid schema.keys) key r.context values valid.keys.each f)

pub values-permitted : (schema : Schema) (r : Request) (key : List ℕ) (rule : KeyRule) → IsValid schema r → item_at key schema.keys ≡ Some rule → PermitsValues rule (values_at r key)
values-permitted schema r key rule valid e = permitted schema r key rule (item_at key r.context) valid e refl

few-values : (rule : KeyRule) (values : List Value) → rule.many ≡ false → PermitsValues rule values → length values ≤ 1
few-values rule values once permits = elim permits.count [
  | inl many ↦ absurd (cc)
  | inr few ↦ few
]

one-found : (schema : Schema) (r : Request) (key : List ℕ) (P : KeyRule → Type 0) (found : Option KeyRule) → ((rule : KeyRule) → P rule → rule.many ≡ false) → IsValid schema r → item_at key schema.keys ≡ found → MatchOption found ⊥ P → length (values_at r key) ≤ 1
one-found schema r key P None single valid e at = absurd at
one-found schema r key P (Some rule) single valid e at = few-values rule (values_at r key) (single rule at) (values-permitted schema r key rule valid e)

pub one-value-permitted : (schema : Schema) (r : Request) (key : List ℕ) (P : KeyRule → Type 0) → ((rule : KeyRule) → P rule → rule.many ≡ false) → IsValid schema r → IsKeyWith schema P key → length (values_at r key) ≤ 1
one-value-permitted schema r key P single valid has = one-found schema r key P (item_at key schema.keys) single valid refl has
