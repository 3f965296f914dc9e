-- The values of slots that no test asks anything of.
use Rattle.std.specs.Prelude.{ℕ, List, [], ◌∷◌, Option, Some, None, true, pos, codes, if◌then◌else◌}
use Rattle.std.specs.List.{flat_map}
use Rattle.std.specs.Option.{option_to_list}
use Rattle.text_table.specs.Table.{item_at}
use Rattle.cidr_bits.specs.declared.address.Address.TheVariants.{V4}
use Rattle.wildcard_lang.specs.declared.piece.Piece.{Piece}
use Rattle.wildcard_lang.specs.declared.piece.Piece.TheVariants.{Lit, LitFold, One, Many, OneNoColon, ManyNoColon}
use Rattle.policy_model.specs.declared.principal.PrincipalKind.TheVariants.{Aws}
use Rattle.policy_model.specs.declared.schema.KeyRule.{KeyRule}
use Rattle.policy_model.specs.declared.schema.Schema.{Schema}
use Rattle.policy_model.specs.declared.test.Slot.{Slot}
use Rattle.policy_model.specs.declared.test.Slot.TheVariants as slot
use Rattle.policy_model.specs.declared.value.Kind.{Kind}
use Rattle.policy_model.specs.declared.value.Kind.TheVariants as kind
use Rattle.policy_model.specs.declared.value.Value.{Value}
use Rattle.policy_model.specs.declared.value.Value.TheVariants as key_value
use Rattle.slot_theory.specs.declared.outcome.SlotValue.{SlotValue}
use Rattle.slot_theory.specs.declared.outcome.SlotValue.TheVariants as value

-- the characters of a sample that stand for a piece: a literal's own, `x` for any one, and none for any number
abbrev pub sample_of_piece : Piece → List ℕ
sample_of_piece (Lit c) = c ∷ []
sample_of_piece (LitFold c) = c ∷ []
sample_of_piece One = codes "x"
sample_of_piece OneNoColon = codes "x"
sample_of_piece Many = []
sample_of_piece ManyNoColon = []

-- a text that the pattern matches
abbrev pub sample : List Piece → List ℕ
sample = flat_map sample_of_piece

-- the text, or `x` in place of the empty one
abbrev pub or_x : List ℕ → List ℕ
or_x [] = codes "x"
or_x (c ∷ cs) = c ∷ cs

-- the word where nothing asks for one: a sample of the shape, or `x`
abbrev pub stated_word : Option (List Piece) → List ℕ
stated_word None = codes "x"
stated_word (Some shape) = or_x (sample shape)

-- a value of each kind: `x`, true, 0, the address 0.0.0.0 or no bytes
abbrev pub plain_value : Kind → Value
plain_value kind.Text = key_value.Word (codes "x")
plain_value kind.Truth = key_value.Truth true
plain_value kind.Number = key_value.Number (pos 0)
plain_value kind.Address = key_value.Address (V4 0)
plain_value kind.Bytes = key_value.Bytes []

-- a sample of the shape, where one is given. A key's value may be the empty text
abbrev pub shaped_or : Option (List Piece) → Value → Value
shaped_or None v = v
shaped_or (Some shape) v = key_value.Word (sample shape)

-- the first of the listed values, where some are listed
abbrev pub listed_or : Option (List Value) → Value → Value
listed_or None v = v
listed_or (Some []) v = v
listed_or (Some (first ∷ rest)) v = first

-- the value of a required key: the first listed one, or else a sample of the key's shape, or else one by its kind
abbrev pub stated_key : KeyRule → Value
stated_key rule = listed_or rule.among (shaped_or rule.shape (plain_value rule.kind))

-- the values of a key, where nothing asks for any: one where the key is required, and otherwise none
abbrev pub stated_values : KeyRule → List Value
stated_values rule = (if rule.required then stated_key rule ∷ [] else [])

-- the value of a slot, where nothing asks for one
abbrev pub stated_value : Schema → Slot → SlotValue
stated_value schema slot.Principal = value.Principal Aws (stated_word schema.shapes.aws)
stated_value schema slot.Action = value.Word (stated_word schema.shapes.action)
stated_value schema slot.Resource = value.Word (stated_word schema.shapes.resource)
stated_value schema (slot.Key name) = value.Values (flat_map stated_values (option_to_list (item_at name schema.keys)))
