-- The dimensions of a summary: the slots of their names.
use Rattle.std.specs.Prelude.{◌≡◌, ℕ, List, ◌∷◌, ◌++◌, map, All, codes, if◌then◌else◌}
use Rattle.std.specs.Str.{bytes_eq, chars}
use Rattle.policy_model.specs.declared.schema.Schema.{Schema}
use Rattle.policy_model.specs.declared.test.Slot.{Slot}
use Rattle.policy_model.specs.declared.test.Slot.TheVariants.{Principal, Action, Resource, Key}
use Rattle.request_schema.specs.BuiltIn.{folded_name}
use Rattle.slot_theory.specs.Slots.{SlotIsIn}
use Rattle.run_inputs.specs.declared.printed.Printed.{Printed}
use Rattle.run_inputs.specs.declared.status.Status.TheVariants.{Refused}
use Rattle.run_inputs.specs.Printing.{PrintsText}
use Rattle.summary_answers.specs.FindingTexts.{unknown_line}

-- the slot of a name: the principal, the action and the resource have these very names, and any other is that of a key, whose ASCII
-- letters are lowered
abbrev pub dimension_slot : List ℕ → Slot
dimension_slot name =
    if bytes_eq name (codes "principal") then Principal else if bytes_eq name (codes "action") then Action else
    if bytes_eq name (codes "resource") then Resource else Key (folded_name name)

-- the slots of names, in their order
abbrev pub dimension_slots : List (List ℕ) → List Slot
dimension_slots names = map dimension_slot names

-- the name is that of a slot of the requests under the schema
abbrev pub NamesSlot : Schema → List ℕ → Type 0
NamesSlot schema name = SlotIsIn schema (dimension_slot name)

-- each name is
abbrev pub NameSlots : Schema → List (List ℕ) → Type 0
NameSlots schema names = All (NamesSlot schema) names

-- the name, given by its characters, is the first that isn't
pub record IsFirstUnknown (schema : Schema) (names : List (List ℕ)) (element : List ℕ) : Type 0 where
  pub before : List (List ℕ)
  pub name : List ℕ
  pub behind : List (List ℕ)
  pub is : names ≡ before ++ name ∷ behind
  pub known : NameSlots schema before
  pub unknown : ¬ NamesSlot schema name
  pub written : element ≡ chars name

-- the slots of names that are known
abbrev pub AreSlotsOf : Schema → List (List ℕ) → List Slot → Type 0
AreSlotsOf schema names slots = NameSlots schema names × (slots ≡ dimension_slots names)

-- what is printed of the first that isn't
pub record IsUnknownPrinted (schema : Schema) (names : List (List ℕ)) (p : Printed) : Type 0 where
  pub element : List ℕ
  pub first : IsFirstUnknown schema names element
  pub prints : PrintsText (unknown_line element) Refused p
