-- Parts of the lines that several commands print.
use Rattle.std.specs.Prelude.{ℕ, List, ◌++◌, codes, decimal}
use Rattle.std.specs.Str.{encode_utf8_all}
use Rattle.serde_json.specs.Data.{string}
use Rattle.serde_json.specs.Written.{compact_text}
use Rattle.policy_model.specs.declared.test.Slot.{Slot}
use Rattle.policy_model.specs.declared.test.Slot.TheVariants as slot
use Rattle.run_inputs.specs.declared.shortage.Shortage.{Shortage}
use Rattle.run_inputs.specs.declared.shortage.Shortage.TheVariants.{Splits, States}

-- an element's name as JSON
abbrev pub element_text : List ℕ → List ℕ
element_text element = compact_text (string (encode_utf8_all element))

-- the name of a slot
abbrev pub slot_word : Slot → List ℕ
slot_word slot.Principal = codes "principal"
slot_word slot.Action = codes "action"
slot_word slot.Resource = codes "resource"
slot_word (slot.Key name) = codes "key " ++ encode_utf8_all name

-- the line on a budget that is too small for a query
unfoldable pub shortage_text : Shortage → List ℕ
shortage_text (Splits n) = codes "undecided: splits " ++ decimal n ++ codes "\n"
shortage_text (States n s) = codes "undecided: states " ++ decimal n ++ codes " at " ++ slot_word s ++ codes "\n"
