-- What a request takes from slot values, and what it has where there is none.
use Rattle.std.specs.Prelude.{◌≡◌, ℕ, List, [], ◌∷◌, Option, Some, None, unwrap_or, if◌then◌else◌}
use Rattle.std.specs.List.{flat_map}
use Rattle.std.specs.Option.{option_or}
use Rattle.std.specs.Str.{bytes_eq}
use Rattle.text_table.specs.Table.{Entries, item_at, with_item}
use Rattle.policy_model.specs.declared.principal.PrincipalKind.{PrincipalKind}
use Rattle.policy_model.specs.declared.principal.PrincipalKind.TheVariants.{Aws}
use Rattle.policy_model.specs.declared.request.Request.{Request}
use Rattle.policy_model.specs.declared.schema.KeyRule.{KeyRule}
use Rattle.policy_model.specs.declared.schema.Schema.{Schema}
use Rattle.policy_model.specs.declared.schema.Shapes.{Shapes}
use Rattle.policy_model.specs.declared.test.Slot.{Slot}
use Rattle.policy_model.specs.declared.test.Slot.TheVariants as slot
use Rattle.policy_model.specs.declared.value.Value.{Value}
use Rattle.slot_theory.specs.declared.outcome.SlotValue.{SlotValue}
use Rattle.slot_theory.specs.declared.outcome.SlotValue.TheVariants as value
use Rattle.slot_theory.specs.Unasked.{stated_values, stated_word}

-- the kind and the id of a value of the principal
abbrev pub principal_or : Slot → SlotValue → PrincipalKind × List ℕ → PrincipalKind × List ℕ
principal_or slot.Principal (value.Principal kind id) rest = (kind, id)
principal_or s v rest = rest

-- the word of a value of the action
abbrev pub action_or : Slot → SlotValue → List ℕ → List ℕ
action_or slot.Action (value.Word t) rest = t
action_or s v rest = rest

-- the word of a value of the resource
abbrev pub resource_or : Slot → SlotValue → List ℕ → List ℕ
resource_or slot.Resource (value.Word t) rest = t
resource_or s v rest = rest

-- the values, where they are those of a key of this name
abbrev pub values_under : List ℕ → List ℕ → List Value → Option (List Value)
values_under name key vs = (if bytes_eq key name then Some vs else None)

-- the values of a key of this name
abbrev pub values_at_key : List ℕ → Slot → SlotValue → Option (List Value)
values_at_key name (slot.Key key) (value.Values vs) = values_under name key vs
values_at_key name s v = None

-- the first principal among the values, or the stated one
abbrev pub principal_in : Shapes → List (Slot × SlotValue) → PrincipalKind × List ℕ
principal_in shapes [] = (Aws, stated_word shapes.aws)
principal_in shapes (p ∷ ps) = principal_or p.0 p.1 (principal_in shapes ps)

-- the first action among the values, or the stated one
abbrev pub action_in : Shapes → List (Slot × SlotValue) → List ℕ
action_in shapes [] = stated_word shapes.action
action_in shapes (p ∷ ps) = action_or p.0 p.1 (action_in shapes ps)

-- the first resource among the values, or the stated one
abbrev pub resource_in : Shapes → List (Slot × SlotValue) → List ℕ
resource_in shapes [] = stated_word shapes.resource
resource_in shapes (p ∷ ps) = resource_or p.0 p.1 (resource_in shapes ps)

-- the first values of the key among these, or the stated ones
abbrev pub key_values : List (Slot × SlotValue) → List ℕ → KeyRule → List Value
key_values [] name rule = stated_values rule
key_values (p ∷ ps) name rule = unwrap_or (values_at_key name p.0 p.1) (key_values ps name rule)

-- the first values of the key among these, where there are some
abbrev pub first_values : List (Slot × SlotValue) → List ℕ → Option (List Value)
first_values [] name = None
first_values (p ∷ ps) name = option_or (values_at_key name p.0 p.1) (first_values ps name)

-- each key has its first values there, and no other key is there
abbrev pub HasFirstValues : List (Slot × SlotValue) → Entries (List Value) → Type 0
HasFirstValues values found = (name : List ℕ) → item_at name found ≡ first_values values name

-- each key has what it had, or else these values of it
abbrev pub IsWithFirst : Entries (List Value) → (List ℕ → Option (List Value)) → Entries (List Value) → Type 0
IsWithFirst old values new = (name : List ℕ) → item_at name new ≡ option_or (item_at name old) (values name)

-- the key with its values, where it has some
abbrev pub filled_entry : List ℕ → List Value → Entries (List Value)
filled_entry name [] = []
filled_entry name (v ∷ vs) = (name, v ∷ vs) ∷ []

-- the context with these values of the key, if there are any
abbrev pub with_some : Entries (List Value) → List ℕ → List Value → Entries (List Value)
with_some context name [] = context
with_some context name (v ∷ vs) = with_item context name (v ∷ vs)

-- each key of the schema that has values, with them
abbrev pub context_in : List (Slot × SlotValue) → Entries KeyRule → Entries (List Value)
context_in values keys = flat_map (λ entry. filled_entry entry.0 (key_values values entry.0 entry.1)) keys

-- the request that has these values, and the stated ones where there are none
abbrev pub joined_request : Schema → List (Slot × SlotValue) → Request
joined_request schema values = record {
  kind = (principal_in schema.shapes values).0;
  id = (principal_in schema.shapes values).1;
  action = action_in schema.shapes values;
  resource = resource_in schema.shapes values;
  context = context_in values schema.keys;
}
