-- Names of condition keys, which are compared without regard to the case of ASCII letters, and schemas without shapes.
use Rattle.std.specs.Prelude.{◌≡◌, ◌≢◌, ℕ, List, [], None, All}
use Rattle.std.specs.Map.{keys_of, values_of}
use Rattle.text_table.specs.Table.{Entries}
use Rattle.wildcard_lang.specs.Text.{folded_text}
use Rattle.policy_model.specs.declared.schema.Shapes.{Shapes}

-- the name has no ASCII capitals
abbrev pub IsFolded : List ℕ → Type 0
IsFolded key = folded_text key ≡ key

-- no name of these entries has ASCII capitals
abbrev pub AreFolded : {V : Type 0} → Entries V → Type 0
AreFolded entries = All IsFolded (keys_of entries)

-- each of these lists has a value
abbrev pub AllHaveValues : {V : Type 0} → Entries (List V) → Type 0
AllHaveValues entries = All (λ values. values ≢ []) (values_of entries)

-- no shape is given
abbrev pub no_shapes : Shapes
no_shapes = record { action = None; resource = None; aws = None; service = None; federated = None; canonical_user = None }
