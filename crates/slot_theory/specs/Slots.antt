-- The slots of a request, the tests on each of them, and the values that answer them.
use Rattle.std.specs.Prelude.{◌≡◌, ⊤, ℕ, ◌+◌, ◌&&◌, List, [], ◌∷◌, ◌++◌, flat_map, slice_get, slice_index_or}
use Rattle.std.specs.Prelude.{Bool, true, false, Option, Some, None, is_some, IsSome, MatchBool, MatchOption, if◌then◌else◌}
use Rattle.std.specs.Str.{bytes_eq}
use Rattle.std.specs.Option.{option_to_list}
use Rattle.text_table.specs.Table.{item_at}
use Rattle.wildcard_lang.specs.declared.piece.Piece.{Piece}
use Rattle.wildcard_lang.specs.declared.piece.Piece.TheVariants.{One, Many}
use Rattle.wildcard_lang.specs.Matching.{Matches}
use Rattle.formula_tree.specs.Answers.{Answers, answer_of}
use Rattle.policy_model.specs.declared.principal.PrincipalKind.{PrincipalKind}
use Rattle.policy_model.specs.declared.schema.Shapes.{Shapes}
use Rattle.policy_model.specs.declared.schema.Schema.{Schema}
use Rattle.policy_model.specs.declared.test.Slot.{Slot}
use Rattle.policy_model.specs.declared.test.Slot.TheVariants as slot
use Rattle.policy_model.specs.declared.test.Test.{Test}
use Rattle.policy_model.specs.declared.test.Test.TheVariants.{Principal, Action, Resource, Present, SomeMeets, SomeMeetsNone}
use Rattle.policy_model.specs.Principals.{EntryNames}
use Rattle.policy_model.specs.Requests.{IsWord, shape_of}
use Rattle.set_operators.specs.declared.ask.KeyAsk.{KeyAsk}
use Rattle.set_operators.specs.declared.ask.KeyAsk.TheVariants as ask
use Rattle.set_operators.specs.Asks.{AreValuesOf, AskHolds}
use Rattle.set_operators.specs.Wants.{ask_patterns, rule_patterns}
use Rattle.slot_theory.specs.Entries.{entry_pattern, fixed_answer}
use Rattle.slot_theory.specs.declared.outcome.SlotValue.{SlotValue}
use Rattle.slot_theory.specs.declared.outcome.SlotValue.TheVariants as value

-- the slot that a test is on
abbrev pub slot_of : Test → Slot
slot_of (Principal entry) = slot.Principal
slot_of (Action pattern) = slot.Action
slot_of (Resource pattern) = slot.Resource
slot_of (Present key) = slot.Key key
slot_of (SomeMeets key c) = slot.Key key
slot_of (SomeMeetsNone key cs) = slot.Key key

-- the slot is the action or the resource
abbrev pub IsWordSlot : Slot → Type 0
IsWordSlot slot.Principal = ⊥
IsWordSlot slot.Action = ⊤
IsWordSlot slot.Resource = ⊤
IsWordSlot (slot.Key name) = ⊥

-- requests under the schema may have a value in the slot: a key is one of the schema's
abbrev pub SlotIsIn : Schema → Slot → Type 0
SlotIsIn schema slot.Principal = ⊤
SlotIsIn schema slot.Action = ⊤
SlotIsIn schema slot.Resource = ⊤
SlotIsIn schema (slot.Key name) = IsSome (item_at name schema.keys)

-- the test of a number
abbrev pub test_at : List Test → ℕ → Test
test_at tests n = slice_index_or tests n (Action [])

-- whether the test is on the slot
abbrev pub is_on : Slot → Test → Bool
is_on slot.Principal (Principal entry) = true
is_on slot.Action (Action pattern) = true
is_on slot.Resource (Resource pattern) = true
is_on (slot.Key name) (Present key) = bytes_eq name key
is_on (slot.Key name) (SomeMeets key c) = bytes_eq name key
is_on (slot.Key name) (SomeMeetsNone key cs) = bytes_eq name key
is_on s t = false

-- the answer of the test to every principal of the kind, where it is the same for all of them
abbrev pub fixed_at : PrincipalKind → Test → Option Bool
fixed_at k (Principal entry) = fixed_answer k entry
fixed_at k (Action pattern) = None
fixed_at k (Resource pattern) = None
fixed_at k (Present key) = None
fixed_at k (SomeMeets key c) = None
fixed_at k (SomeMeetsNone key cs) = None

-- the pattern of a test: a test on a word has one, a test on the principal may have none. What a test on a key asks has its own
abbrev pub pattern_of : Test → Option (List Piece)
pattern_of (Principal entry) = entry_pattern entry
pattern_of (Action pattern) = Some pattern
pattern_of (Resource pattern) = Some pattern
pattern_of (Present key) = None
pattern_of (SomeMeets key c) = None
pattern_of (SomeMeetsNone key cs) = None

-- what a test on a key asks of the key's values. Of a test that is on no key nothing rests on it
abbrev pub ask_of : Test → KeyAsk
ask_of (Present key) = ask.Present
ask_of (SomeMeets key c) = ask.SomeMeets c
ask_of (SomeMeetsNone key cs) = ask.SomeMeetsNone cs
ask_of (Principal entry) = ask.Present
ask_of (Action pattern) = ask.Present
ask_of (Resource pattern) = ask.Present

-- the patterns of a test: at most one on a word or on the principal, on a key those of what it asks
abbrev pub test_patterns : Test → List (List Piece)
test_patterns t = option_to_list (pattern_of t) ++ ask_patterns (ask_of t)

-- the test of the number has a pattern
abbrev pub HasPattern : List Test → ℕ → Type 0
HasPattern tests n = IsSome (pattern_of (test_at tests n))

-- `?*`, which every text that isn't empty matches
abbrev pub some_word : List Piece
some_word = One ∷ Many ∷ []

-- the shape that the schema gives the words of the slot
abbrev pub shape_at : Schema → Slot → Option (List Piece)
shape_at schema slot.Principal = None
shape_at schema slot.Action = schema.shapes.action
shape_at schema slot.Resource = schema.shapes.resource
shape_at schema (slot.Key name) = None

-- the shapes of the ids of principals, in the order of the kinds
abbrev pub id_shapes : Shapes → List (List Piece)
id_shapes shapes =
    option_to_list shapes.aws ++
    (option_to_list shapes.service ++ (option_to_list shapes.federated ++ option_to_list shapes.canonical_user))

-- what the schema asks of every value of the slot: a word matches `?*` and its shape, an id the shape of its kind, and a key's
-- value what its rule asks
abbrev pub asked_by_schema : Schema → Slot → List (List Piece)
asked_by_schema schema slot.Principal = some_word ∷ id_shapes schema.shapes
asked_by_schema schema slot.Action = some_word ∷ option_to_list schema.shapes.action
asked_by_schema schema slot.Resource = some_word ∷ option_to_list schema.shapes.resource
asked_by_schema schema (slot.Key name) = flat_map rule_patterns (option_to_list (item_at name schema.keys))

-- the patterns of the answered tests of the slot among these, which are numbered from n on
abbrev pub answered_patterns : List Test → Answers → Slot → ℕ → List (List Piece)
answered_patterns [] path s n = []
answered_patterns (t ∷ ts) path s n =
    (if is_on s t && is_some (answer_of path n) then test_patterns t ++ answered_patterns ts path s (n + 1)
    else answered_patterns ts path s (n + 1))

-- the patterns of a slot at a path: those of its answered tests in the order of their numbers, and then what the schema asks: of
-- the principal, the action and the resource `?*` and then the shapes, of a key its shape or its listed texts
abbrev pub patterns_at : Schema → List Test → Answers → Slot → List (List Piece)
patterns_at schema tests path s = answered_patterns tests path s 0 ++ asked_by_schema schema s

-- the schema permits the value in the slot. The values of a key are those of a valid request, and an absent key has none
abbrev pub Permits : Schema → Slot → SlotValue → Type 0
Permits schema slot.Principal (value.Principal kind id) = IsWord (shape_of schema.shapes kind) id
Permits schema slot.Action (value.Word t) = IsWord schema.shapes.action t
Permits schema slot.Resource (value.Word t) = IsWord schema.shapes.resource t
Permits schema slot.Principal (value.Word t) = ⊥
Permits schema slot.Action (value.Principal kind id) = ⊥
Permits schema slot.Resource (value.Principal kind id) = ⊥
Permits schema slot.Principal (value.Values vs) = ⊥
Permits schema slot.Action (value.Values vs) = ⊥
Permits schema slot.Resource (value.Values vs) = ⊥
Permits schema (slot.Key name) (value.Values vs) = MatchOption (item_at name schema.keys) ⊥ (λ rule. AreValuesOf rule vs)
Permits schema (slot.Key name) (value.Principal kind id) = ⊥
Permits schema (slot.Key name) (value.Word t) = ⊥

-- the value meets the test, which is on a slot of its form
abbrev pub ValueMeets : SlotValue → Test → Type 0
ValueMeets (value.Principal kind id) (Principal entry) = EntryNames kind id entry
ValueMeets (value.Principal kind id) (Action pattern) = ⊥
ValueMeets (value.Principal kind id) (Resource pattern) = ⊥
ValueMeets (value.Word t) (Principal entry) = ⊥
ValueMeets (value.Word t) (Action pattern) = Matches pattern t
ValueMeets (value.Word t) (Resource pattern) = Matches pattern t
ValueMeets (value.Values vs) (Present key) = AskHolds vs ask.Present
ValueMeets (value.Values vs) (SomeMeets key c) = AskHolds vs (ask.SomeMeets c)
ValueMeets (value.Values vs) (SomeMeetsNone key cs) = AskHolds vs (ask.SomeMeetsNone cs)
ValueMeets (value.Values vs) (Principal entry) = ⊥
ValueMeets (value.Values vs) (Action pattern) = ⊥
ValueMeets (value.Values vs) (Resource pattern) = ⊥
ValueMeets (value.Principal kind id) (Present key) = ⊥
ValueMeets (value.Principal kind id) (SomeMeets key c) = ⊥
ValueMeets (value.Principal kind id) (SomeMeetsNone key cs) = ⊥
ValueMeets (value.Word t) (Present key) = ⊥
ValueMeets (value.Word t) (SomeMeets key c) = ⊥
ValueMeets (value.Word t) (SomeMeetsNone key cs) = ⊥

-- the value answers the test so
abbrev pub AnswersTest : SlotValue → Test → Bool → Type 0
AnswersTest v t answer = MatchBool answer (ValueMeets v t) (¬ ValueMeets v t)

-- the value answers each answered test of the slot as the path does
abbrev pub AnswersSlot : List Test → Answers → Slot → SlotValue → Type 0
AnswersSlot tests path s v =
    (n : ℕ) (b : Bool) (t : Test) → answer_of path n ≡ Some b → slice_get tests n ≡ Some t → slot_of t ≡ s → AnswersTest v t b

-- a value of the slot at the path: the schema permits it, and it answers the slot's tests as the path does
abbrev pub IsSlotValue : Schema → List Test → Answers → Slot → SlotValue → Type 0
IsSlotValue schema tests path s v = Permits schema s v × AnswersSlot tests path s v
