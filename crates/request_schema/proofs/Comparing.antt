-- What the uses of a key come to, one use after another.
use Rattle.std.proofs.Common.{◌≡◌, ℕ, List, [], ◌∷◌, ◌++◌, Bool, true, false, not, ◌&&◌, Option, Some, filter, map, append-nil, refl, ap, sym, ◌∙◌, subst}
use Rattle.std.specs.Prelude.{if◌then◌else◌}
use Rattle.std.specs.List.{flat_map, list_all}
use Rattle.std.proofs.lemmas.List.Elements.{filter-append}
use Rattle.std.proofs.lemmas.List.Folds.{list_all-append}
use Rattle.text_table.specs.Table.{Entries, item_at, with_item}
use Rattle.policy_model.specs.declared.operator.Family.{Family}
use Rattle.policy_model.specs.declared.schema.KeyRule.{KeyRule}
use Rattle.policy_model.specs.declared.schema.Schema.{Schema}
use Rattle.policy_model.specs.declared.value.Kind.{Kind}
use Rattle.policy_model.specs.Operators.{is_null}
use Rattle.request_schema.specs.BuiltIn.{NamedRule, is_key}
use Rattle.request_schema.specs.KeyUses.{Summarises, checks_by, key_use, kind_fixed, more_use, rule_made, rules_by, with_use}
use Rattle.request_schema.specs.RunSchemas.{UseCheck, checks_among, fixed_kind, further_rules, is_further, rule_from, use_checks}
use Rattle.request_schema.specs.Uses.{Use, comparing_uses, compares_values, is_bool, is_plain, use_family}
use Rattle.request_schema.specs.declared.key_use.KeyUse.{KeyUse}
use Rattle.request_schema.proofs.Entries.{is_key-is, item_at-with}

and-true : (b : Bool) → (b && true) ≡ b
and-true true = refl
and-true false = refl

and-false : (b : Bool) → (b && false) ≡ false
and-false true = refl
and-false false = refl

abbrev is_bool_use : Use → Bool
is_bool_use u = is_bool (use_family u)

abbrev is_prefixed_use : Use → Bool
is_prefixed_use u = not (is_plain u.condition.operator.quantifier)

all-push : (p : Use → Bool) (us : List Use) (u : Use) → list_all p (us ++ u ∷ []) ≡ (list_all p us && p u)
all-push p us u = list_all-append p us (u ∷ []) ∙ ap (λ (b : Bool). list_all p us && b) (and-true (p u))

abbrev made : Family → Bool → Bool → Option KeyUse
made first bools prefixed = Some (record { first = first; bools = bools; prefixed = prefixed })

-- with one use more
key_use-push : (us : List Use) (u : Use) → key_use (us ++ u ∷ []) ≡ Some (more_use (key_use us) u.condition.operator)
key_use-push [] u = ap (λ (b : Bool). made (use_family u) b (is_prefixed_use u && true)) (and-true (is_bool_use u)) ∙ ap (λ (b : Bool). made (use_family u) (is_bool_use u) b) (and-true (is_prefixed_use u))
key_use-push (v ∷ vs) u =
    ap (λ (b : Bool). made (use_family v) b (list_all is_prefixed_use ((v ∷ vs) ++ u ∷ []))) (all-push is_bool_use (v ∷ vs) u)
    ∙ ap (λ (b : Bool). made (use_family v) (list_all is_bool_use (v ∷ vs) && is_bool_use u) b) (all-push is_prefixed_use (v ∷ vs) u)

comparing-push : (key : List ℕ) (us : List Use) (u : Use) (b : Bool) → compares_values key u ≡ b → comparing_uses key (us ++ u ∷ []) ≡ comparing_uses key us ++ (if b then u ∷ [] else [])
comparing-push key us u b is = filter-append (compares_values key) us (u ∷ []) ∙ ap (λ (c : Bool). comparing_uses key us ++ (if c then u ∷ [] else [])) is

-- at one key
at-key : (key : List ℕ) (us : List Use) (u : Use) (table : Entries KeyUse) (same : Bool) → is_key key u.condition.key ≡ same → is_null u.condition.operator.base ≡ false → Summarises us table →
    (if same then Some (more_use (item_at u.condition.key table) u.condition.operator) else item_at key table) ≡ key_use (comparing_uses key (us ++ u ∷ []))
at-key key us u table true is compared so_far =
    let here : compares_values key u ≡ true = ap (λ (b : Bool). b && not (is_null u.condition.operator.base)) is ∙ ap not compared in
    let known : item_at u.condition.key table ≡ key_use (comparing_uses key us) = subst (λ (k : List ℕ). item_at k table ≡ key_use (comparing_uses key us)) (is_key-is key u.condition.key is) (so_far key) in
    ap (λ (o : Option KeyUse). Some (more_use o u.condition.operator)) known ∙ sym (key_use-push (comparing_uses key us) u) ∙ sym (ap key_use (comparing-push key us u true here))
at-key key us u table false is compared so_far =
    let here : compares_values key u ≡ false = ap (λ (b : Bool). b && not (is_null u.condition.operator.base)) is in
    so_far key ∙ sym (ap key_use (comparing-push key us u false here ∙ append-nil (comparing_uses key us)))

by-null : (us : List Use) (u : Use) (table : Entries KeyUse) (null : Bool) → is_null u.condition.operator.base ≡ null → Summarises us table →
    Summarises (us ++ u ∷ []) (if null then table else with_item table u.condition.key (more_use (item_at u.condition.key table) u.condition.operator))
by-null us u table true is so_far = λ key.
    let here : compares_values key u ≡ false = ap (λ (b : Bool). is_key key u.condition.key && not b) is ∙ and-false (is_key key u.condition.key) in
    so_far key ∙ sym (ap key_use (comparing-push key us u false here ∙ append-nil (comparing_uses key us)))
by-null us u table false is so_far = λ key.
    item_at-with key u.condition.key (more_use (item_at u.condition.key table) u.condition.operator) table ∙ at-key key us u table (is_key key u.condition.key) refl is so_far

-- the table with one use more
pub summarises-more : (us : List Use) (u : Use) (table : Entries KeyUse) → Summarises us table → Summarises (us ++ u ∷ []) (with_use table u.condition)
summarises-more us u table so_far = by-null us u table (is_null u.condition.operator.base) refl so_far

-- ---- by the table

kind-same : (us : List Use) → kind_fixed (key_use us) ≡ fixed_kind us
kind-same [] = refl
kind-same (u ∷ us) = refl

rule-same : (us : List Use) → rule_made (key_use us) ≡ rule_from us
rule-same [] = refl
rule-same (u ∷ us) = refl

-- the checks by the table are those by the uses
pub checks-same : (named : Schema) (us list : List Use) (table : Entries KeyUse) → Summarises us table → flat_map (checks_by named table) list ≡ flat_map (checks_among named us) list
checks-same named us [] table is = refl
checks-same named us (u ∷ list) table is =
    let here : kind_fixed (item_at u.condition.key table) ≡ fixed_kind (comparing_uses u.condition.key us) = ap kind_fixed (is u.condition.key) ∙ kind-same (comparing_uses u.condition.key us) in
    ap (λ (k : Kind). use_checks named k u ++ flat_map (checks_by named table) list) here ∙ ap (λ (rest : List UseCheck). checks_among named us u ++ rest) (checks-same named us list table is)

-- the rule of a use's key, by the table and by the uses
abbrev made_by : Entries KeyUse → Use → NamedRule
made_by table u = (u.condition.key, rule_made (item_at u.condition.key table))

abbrev pub made_from : List Use → Use → NamedRule
made_from us u = (u.condition.key, rule_from (comparing_uses u.condition.key us))

abbrev with_key : List ℕ → KeyRule → NamedRule
with_key key rule = (key, rule)

rules-at : (us list : List Use) (table : Entries KeyUse) → Summarises us table → map (made_by table) list ≡ map (made_from us) list
rules-at us [] table is = refl
rules-at us (u ∷ list) table is =
    ap (λ (r : KeyRule). with_key u.condition.key r ∷ map (made_by table) list) (ap rule_made (is u.condition.key) ∙ rule-same (comparing_uses u.condition.key us)) ∙ ap (λ (rest : List NamedRule). made_from us u ∷ rest) (rules-at us list table is)

-- and so are the rules
pub rules-same : (named : Schema) (us : List Use) (table : Entries KeyUse) → Summarises us table → rules_by named.keys table us ≡ further_rules named.keys us
rules-same named us table is = rules-at us (filter (is_further named.keys) us) table is
