-- The keys of a request file, read one by one, and the keys that a request must have.
use Rattle.std.proofs.Common.{◌≡◌, ℕ, List, [], ◌∷◌, ◌++◌, All, Option, Some, None, ap, sym, subst, ◌∙◌}
use Rattle.std.specs.Prelude.{MatchOption}
use Rattle.text_table.specs.Table.{Entries, item_at, with_item}
use Rattle.json_shapes.specs.Checks.{first_fault}
use Rattle.json_shapes.proofs.Laws.{first_fault-rest}
use Rattle.policy_model.specs.declared.schema.KeyRule.{KeyRule}
use Rattle.policy_model.specs.declared.value.Value.{Value}
use Rattle.policy_model.specs.Requests.{EntryIsValid, PermitsValues}
use Rattle.request_schema.specs.BuiltIn.{folded_name}
use Rattle.request_json.specs.RequestKeys.{checks_by_rule, context_checks, context_from, rule_at, with_key}
use Rattle.request_json.proofs.Apart.{FileKey}
use Rattle.request_json.proofs.Entries.{All-with_item}

abbrev pub Keys : Type 0
Keys = Entries (List Value)

-- the keys so far are passed, and the context has what they stand for
pub record ContextSoFar (keys : Entries KeyRule) (all rest : List FileKey) (context : Keys) : Type 0 where
  pub faults : first_fault (context_checks keys all) ≡ first_fault (context_checks keys rest)
  pub values : context_from keys [] all ≡ context_from keys context rest
  pub valid : All (EntryIsValid keys) context

module _ (keys : Entries KeyRule) (all rest next : List FileKey) (key : FileKey) (context : Keys) (so_far : ContextSoFar keys all rest context) (is : rest ≡ key ∷ next) where
  -- the next key has these checks
  pub next-faults : first_fault (context_checks keys all) ≡ first_fault (checks_by_rule (rule_at keys key.0) key ++ context_checks keys next)
  next-faults = so_far.faults ∙ ap (λ (ks : List FileKey). first_fault (context_checks keys ks)) is

  -- and is read
  pub reads-key : (new : Keys) → first_fault (checks_by_rule (rule_at keys key.0) key) ≡ None → new ≡ with_key (rule_at keys key.0) context key → (All (EntryIsValid keys) context → All (EntryIsValid keys) new) → ContextSoFar keys all next new
  reads-key new passed new_is valid = record {
    faults = next-faults ∙ first_fault-rest (checks_by_rule (rule_at keys key.0) key) (context_checks keys next) passed;
    values = so_far.values ∙ ap (λ (ks : List FileKey). context_from keys context ks) is ∙ ap (λ (c : Keys). context_from keys c next) (sym new_is);
    valid = valid so_far.valid;
  }

-- ---- one key

-- the schema has it
pub has-rule : (keys : Entries KeyRule) (key own : List ℕ) (rule : KeyRule) → key ≡ folded_name own → item_at key keys ≡ Some rule → rule_at keys own ≡ Some rule
has-rule keys key own rule named has = ap (λ (k : List ℕ). item_at k keys) (sym named) ∙ has

-- the entry that is put in is valid
pub valid-with : (keys : Entries KeyRule) (context new : Keys) (key : List ℕ) (vs : List Value) (rule : KeyRule) → item_at key keys ≡ Some rule → PermitsValues rule vs → new ≡ with_item context key vs → All (EntryIsValid keys) context → All (EntryIsValid keys) new
valid-with keys context new key vs rule has permits is all =
    let here : EntryIsValid keys (key, vs) = subst (λ (o : Option KeyRule). MatchOption o ⊥ (λ own. PermitsValues own vs)) (sym has) permits in
    subst (All (EntryIsValid keys)) (sym is) (All-with_item (EntryIsValid keys) context key vs all here)
