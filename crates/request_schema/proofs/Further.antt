-- The rules of further keys among those of named ones.
use Rattle.std.proofs.Common.{◌≡◌, ℕ, List, [], ◌∷◌, Bool, true, false, is_none, Option, Some, None, filter, map, refl, ap, sym, ◌∙◌, subst}
use Rattle.std.specs.Prelude.{if◌then◌else◌}
use Rattle.text_table.specs.Table.{Entries, item_at, with_item}
use Rattle.policy_model.specs.declared.schema.KeyRule.{KeyRule}
use Rattle.request_schema.specs.BuiltIn.{NamedRule, is_key, with_rules}
use Rattle.request_schema.specs.RunSchemas.{further_rules, is_further, rule_from, rule_in_use}
use Rattle.request_schema.specs.Uses.{Use, comparing_uses, of_key}
use Rattle.request_schema.proofs.Entries.{is_key-is, item_at-with}

-- ---- one use after another

step : (make : Use → NamedRule) (rules : Entries KeyRule) (b : Bool) (u : Use) (rest : List Use) → with_rules rules (map make (if b then u ∷ rest else rest)) ≡ with_rules (if b then with_item rules (make u).0 (make u).1 else rules) (map make rest)
step make rules true u rest = refl
step make rules false u rest = refl

-- ---- what a look-up finds

-- the rule of a key that is used, or else what was there
abbrev pick : List Use → KeyRule → Option KeyRule → Option KeyRule
pick [] rule o = o
pick (u ∷ us) rule o = Some rule

pick-some : (us : List Use) (rule : KeyRule) → pick us rule (Some rule) ≡ Some rule
pick-some [] rule = refl
pick-some (u ∷ us) rule = refl

module _ (keys : Entries KeyRule) (R : List ℕ → KeyRule) where
  abbrev named : Use → NamedRule
  named u = (u.condition.key, R u.condition.key)

  -- the rules of further keys among those of the list
  abbrev rules_among : List Use → List NamedRule
  rules_among list = map named (filter (is_further keys) list)

  abbrev found : List ℕ → List Use → Option KeyRule → Option KeyRule
  found key list o = (if is_none (item_at key keys) then pick (of_key key list) (R key) o else o)

  -- with a use of the key in front
  own : (key : List ℕ) (list : List Use) (u : Use) (rules : Entries KeyRule) (b : Bool) → key ≡ u.condition.key → is_none (item_at u.condition.key keys) ≡ b → is_key key u.condition.key ≡ true
      → ((more : Entries KeyRule) → item_at key (with_rules more (rules_among list)) ≡ found key list (item_at key more))
      → item_at key (with_rules (if b then with_item rules u.condition.key (R u.condition.key) else rules) (rules_among list)) ≡ (if b then Some (R key) else item_at key rules)
  own key list u rules true same further here later =
      let none : is_none (item_at key keys) ≡ true = subst (λ (k : List ℕ). is_none (item_at k keys) ≡ true) (sym same) further in
      let put : item_at key (with_item rules u.condition.key (R u.condition.key)) ≡ Some (R key) =
      item_at-with key u.condition.key (R u.condition.key) rules ∙ ap (λ (c : Bool). if c then Some (R u.condition.key) else item_at key rules) here ∙ ap (λ (k : List ℕ). Some (R k)) (sym same) in
      later (with_item rules u.condition.key (R u.condition.key)) ∙ ap (found key list) put ∙ ap (λ (c : Bool). if c then pick (of_key key list) (R key) (Some (R key)) else Some (R key)) none ∙ pick-some (of_key key list) (R key)
  own key list u rules false same further here later =
      let some : is_none (item_at key keys) ≡ false = subst (λ (k : List ℕ). is_none (item_at k keys) ≡ false) (sym same) further in
      later rules ∙ ap (λ (c : Bool). if c then pick (of_key key list) (R key) (item_at key rules) else item_at key rules) some

  -- with a use of another key in front
  other : (key : List ℕ) (list : List Use) (u : Use) (rules : Entries KeyRule) (b : Bool) → is_key key u.condition.key ≡ false → ((more : Entries KeyRule) → item_at key (with_rules more (rules_among list)) ≡ found key list (item_at key more))
      → item_at key (with_rules (if b then with_item rules u.condition.key (R u.condition.key) else rules) (rules_among list)) ≡ found key list (item_at key rules)
  other key list u rules true apart later =
      later (with_item rules u.condition.key (R u.condition.key)) ∙ ap (found key list) (item_at-with key u.condition.key (R u.condition.key) rules ∙ ap (λ (c : Bool). if c then Some (R u.condition.key) else item_at key rules) apart)
  other key list u rules false apart later = later rules

  front : (key : List ℕ) (list : List Use) (u : Use) (rules : Entries KeyRule) (same : Bool) → is_key key u.condition.key ≡ same → ((more : Entries KeyRule) → item_at key (with_rules more (rules_among list)) ≡ found key list (item_at key more))
      → item_at key (with_rules (if is_further keys u then with_item rules u.condition.key (R u.condition.key) else rules) (rules_among list)) ≡ (if is_none (item_at key keys) then pick (if same then u ∷ of_key key list else of_key key list) (R key) (item_at key rules) else item_at key rules)
  front key list u rules true is later =
      let same : key ≡ u.condition.key = is_key-is key u.condition.key is in
      own key list u rules (is_further keys u) same refl is later ∙ ap (λ (k : List ℕ). if is_none (item_at k keys) then Some (R key) else item_at key rules) (sym same)
  front key list u rules false is later = other key list u rules (is_further keys u) is later

  -- what stands at a key where the rules of further keys are put in
  pub found-among : (key : List ℕ) (list : List Use) (rules : Entries KeyRule) → item_at key (with_rules rules (rules_among list)) ≡ found key list (item_at key rules)
  found-among key [] rules = none-found (is_none (item_at key keys)) (item_at key rules)
    where
      none-found : (b : Bool) (o : Option KeyRule) → o ≡ (if b then o else o)
      none-found true o = refl
      none-found false o = refl
  found-among key (u ∷ list) rules =
      ap (item_at key) (step named rules (is_further keys u) u (filter (is_further keys) list)) ∙ front key list u rules (is_key key u.condition.key) refl (λ more. found-among key list more)

-- at a key of the run
at-run : (o : Option KeyRule) (mine us : List Use) → (if is_none o then pick mine (rule_from us) o else o) ≡ (if is_none o then rule_in_use mine us else o)
at-run None [] us = refl
at-run None (u ∷ mine) us = refl
at-run (Some rule) mine us = refl

pub run-rule-found : (keys : Entries KeyRule) (us : List Use) (key : List ℕ) → item_at key (with_rules keys (further_rules keys us)) ≡ (if is_none (item_at key keys) then rule_in_use (of_key key us) (comparing_uses key us) else item_at key keys)
run-rule-found keys us key = found-among keys (λ k. rule_from (comparing_uses k us)) key us keys ∙ at-run (item_at key keys) (of_key key us) (comparing_uses key us)
