-- The keys of a schema file, read one by one.
use Rattle.std.proofs.Common.{◌≡◌, ℕ, List, [], ◌∷◌, ◌++◌, Bool, ◌||◌, is_some, Option, Some, None, ap, sym, ◌∙◌, subst}
use Rattle.std.specs.Borrow.{Bor}
use Rattle.std.specs.List.{list_any}
use Rattle.std.specs.Option.{option_copied}
use Rattle.serde_json.specs.Data.{Data}
use Rattle.text_table.specs.Table.{Entries, item_at, with_item}
use Rattle.json_shapes.specs.Checks.{first_fault}
use Rattle.json_shapes.proofs.Laws.{first_fault-rest}
use Rattle.policy_model.specs.declared.schema.KeyRule.{KeyRule}
use Rattle.policy_model.specs.Soundness.{RuleIsSound}
use Rattle.request_schema.specs.BuiltIn.{RulesAreSound, built_in_rules, folded_name, with_rules}
use Rattle.request_schema.specs.SchemaRules.{keys_checks, rule_checks, rule_of, rules_of, same_key}
use Rattle.request_schema.proofs.Entries.{some-with}
use Rattle.request_schema.proofs.Putting.{All-with_item}

abbrev pub FileKey : Type 0
FileKey = List ℕ × Data

abbrev pub Seen : Type 0
Seen = Entries (Unit {0})

-- the names seen are those of the keys so far
abbrev Knows : Seen → List (List ℕ) → Type 0
Knows seen before = (name : List ℕ) → is_some (item_at (folded_name name) seen) ≡ list_any (same_key name) before

-- the keys so far are passed, and their rules stand among the others
pub record KeysRead (second : Bool) (all rest : List FileKey) (seen : Seen) (rules : Entries KeyRule) : Type 0 where
  pub before : List (List ℕ)
  pub knows : Knows seen before
  pub faults : first_fault (keys_checks second [] all) ≡ first_fault (keys_checks second before rest)
  pub values : with_rules built_in_rules (rules_of all) ≡ with_rules rules (rules_of rest)
  pub sound : RulesAreSound rules

pub some-copied : {V : Type 0} (o : Option (Bor V)) (p : Option V) → option_copied o ≡ p → is_some o ≡ is_some p
some-copied None p e = ap is_some e
some-copied (Some v) p e = ap is_some e

module _ (second twice : Bool) (all rest next : List FileKey) (key : FileKey) (seen : Seen) (rules : Entries KeyRule) (so_far : KeysRead second all rest seen rules) (is : rest ≡ key ∷ next) (known : twice ≡ is_some (item_at (folded_name key.0) seen)) where
  -- the next key has these checks
  pub next-faults : first_fault (keys_checks second [] all) ≡ first_fault (rule_checks second twice key ++ keys_checks second (key.0 ∷ so_far.before) next)
  next-faults =
      so_far.faults ∙ ap (λ (ks : List FileKey). first_fault (keys_checks second so_far.before ks)) is
      ∙ ap (λ (b : Bool). first_fault (rule_checks second b key ++ keys_checks second (key.0 ∷ so_far.before) next)) (sym (known ∙ so_far.knows key.0))

  -- and is read
  pub reads-key : (rule : KeyRule) (more : Seen) (put : Entries KeyRule) → first_fault (rule_checks second twice key) ≡ None → rule ≡ rule_of key.1 → RuleIsSound rule → more ≡ with_item seen (folded_name key.0) tt → put ≡ with_item rules (folded_name key.0) rule
      → KeysRead second all next more put
  reads-key rule more put passed rule_is sound more_is put_is = record {
    before = key.0 ∷ so_far.before;
    knows = λ name. ap (λ (s : Seen). is_some (item_at (folded_name name) s)) more_is ∙ some-with (folded_name name) (folded_name key.0) tt seen ∙ ap (λ (b : Bool). same_key name key.0 || b) (so_far.knows name);
    faults = next-faults ∙ first_fault-rest (rule_checks second twice key) (keys_checks second (key.0 ∷ so_far.before) next) passed;
    values = so_far.values ∙ ap (λ (ks : List FileKey). with_rules rules (rules_of ks)) is ∙ ap (λ (r : Entries KeyRule). with_rules r (rules_of next)) (sym (put_is ∙ ap (λ (r : KeyRule). with_item rules (folded_name key.0) r) rule_is));
    sound = subst RulesAreSound (sym put_is) (All-with_item RuleIsSound rules (folded_name key.0) rule so_far.sound sound);
  }
