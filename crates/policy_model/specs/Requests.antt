-- Which requests are valid under a schema. This is this project's own choice: words aren't empty, a word without a shape is free
-- otherwise, and a request has no keys but those of the schema.
use Rattle.std.specs.Prelude.{◌≡◌, ◌≢◌, ◌≤◌, ◌<◌, ◌⊎◌, ⊤, ℕ, List, [], length, true, All, Contains}
use Rattle.std.specs.Prelude.{Option, Some, None, MatchOption}
use Rattle.intervals.specs.Scaled.{IsScaled}
use Rattle.cidr_bits.specs.Numbers.{IsAddress}
use Rattle.text_table.specs.Table.{Entries, IsInOrder, KeysAreTexts, item_at}
use Rattle.wildcard_lang.specs.Text.{IsText}
use Rattle.wildcard_lang.specs.Matching.{Matches}
use Rattle.wildcard_lang.specs.declared.piece.Piece.{Piece}
use Rattle.policy_model.specs.declared.principal.PrincipalKind.{PrincipalKind}
use Rattle.policy_model.specs.declared.principal.PrincipalKind.TheVariants.{Aws, Service, Federated, CanonicalUser}
use Rattle.policy_model.specs.declared.value.Kind.{Kind}
use Rattle.policy_model.specs.declared.value.Kind.TheVariants as kind
use Rattle.policy_model.specs.declared.value.Value.{Value}
use Rattle.policy_model.specs.declared.value.Value.TheVariants as value
use Rattle.policy_model.specs.declared.schema.KeyRule.{KeyRule}
use Rattle.policy_model.specs.declared.schema.Shapes.{Shapes}
use Rattle.policy_model.specs.declared.schema.Schema.{Schema}
use Rattle.policy_model.specs.declared.request.Request.{Request}
use Rattle.policy_model.specs.Keys.{AllHaveValues, AreFolded}

-- the text matches the shape, where one is given
abbrev pub FitsShape : Option (List Piece) → List ℕ → Type 0
FitsShape None t = ⊤
FitsShape (Some shape) t = Matches shape t

-- a text that isn't empty and fits the shape
pub record IsWord (shape : Option (List Piece)) (t : List ℕ) : Type 0 where
  pub text : IsText t
  pub nonempty : t ≢ []
  pub fits : FitsShape shape t

-- the shape of the ids of a kind of principals
abbrev pub shape_of : Shapes → PrincipalKind → Option (List Piece)
shape_of shapes Aws = shapes.aws
shape_of shapes Service = shapes.service
shape_of shapes Federated = shapes.federated
shape_of shapes CanonicalUser = shapes.canonical_user

-- the value is of the kind, in the range of its values: a text of Unicode scalars, a number of units of 10^-9 less than 10^27 in
-- size, an address of 32 or 128 bits, bytes below 256
abbrev pub IsOfKind : Kind → Value → Type 0
IsOfKind kind.Text (value.Word t) = IsText t
IsOfKind kind.Text v = ⊥
IsOfKind kind.Truth (value.Truth b) = ⊤
IsOfKind kind.Truth v = ⊥
IsOfKind kind.Number (value.Number n) = IsScaled n
IsOfKind kind.Number v = ⊥
IsOfKind kind.Address (value.Address a) = IsAddress a
IsOfKind kind.Address v = ⊥
IsOfKind kind.Bytes (value.Bytes bs) = All (λ b. b < 256) bs
IsOfKind kind.Bytes v = ⊥

-- a text matches the shape, where one is given. Other values have no shape
abbrev pub ValueFits : Option (List Piece) → Value → Type 0
ValueFits shape (value.Word t) = FitsShape shape t
ValueFits shape v = ⊤

-- the value is among those that are listed, where some are
abbrev pub IsListed : Option (List Value) → Value → Type 0
IsListed None v = ⊤
IsListed (Some listed) v = Contains listed v

-- the rule of a key permits the value
pub record IsValueOf (rule : KeyRule) (v : Value) : Type 0 where
  pub kind : IsOfKind rule.kind v
  pub fits : ValueFits rule.shape v
  pub listed : IsListed rule.among v

-- the rule permits these values together: a key that isn't given several has at most one
pub record PermitsValues (rule : KeyRule) (values : List Value) : Type 0 where
  pub each : All (IsValueOf rule) values
  pub count : (rule.many ≡ true) ⊎ (length values ≤ 1)

-- the key is one of the schema, and its rule permits its values
abbrev pub EntryIsValid : Entries KeyRule → List ℕ × List Value → Type 0
EntryIsValid keys entry = MatchOption (item_at entry.0 keys) ⊥ (λ rule. PermitsValues rule entry.1)

-- the key has a value
abbrev pub HasValue : Entries (List Value) → List ℕ → Type 0
HasValue context key = MatchOption (item_at key context) ⊥ (λ values. values ≢ [])

-- a key that is required has a value
abbrev pub IsThere : Entries (List Value) → List ℕ × KeyRule → Type 0
IsThere context entry = entry.1.required ≡ true → HasValue context entry.0

-- the principal's id, the action and the resource are words of their shapes
pub record WordsAreValid (shapes : Shapes) (r : Request) : Type 0 where
  pub id : IsWord (shape_of shapes r.kind) r.id
  pub action : IsWord shapes.action r.action
  pub resource : IsWord shapes.resource r.resource

-- each key of the context is valid, and each key that is required has a value
pub record KeysAreValid (keys : Entries KeyRule) (context : Entries (List Value)) : Type 0 where
  pub each : All (EntryIsValid keys) context
  pub required : All (IsThere context) keys

-- the schema permits the request's words and its keys
pub record IsValid (schema : Schema) (r : Request) : Type 0 where
  pub words : WordsAreValid schema.shapes r
  pub keys : KeysAreValid schema.keys r.context

-- some request is valid
abbrev pub HasValidRequest : Schema → Type 0
HasValidRequest schema = (r : Request) × IsValid schema r

-- each key of the request stands there once, in the order of the keys, without capitals, and has values: so the request's text says
-- of each key what the request has
pub record HasKeysOnce (r : Request) : Type 0 where
  pub ordered : IsInOrder r.context
  pub folded : AreFolded r.context
  pub nonempty : AllHaveValues r.context

-- and each key is a text: so it is with every request that a program holds
pub record IsWellKept (r : Request) : Type 0 where
  pub once : HasKeysOnce r
  pub texts : KeysAreTexts r.context
