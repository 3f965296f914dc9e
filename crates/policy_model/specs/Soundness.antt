-- Which sets and schemas are sound, which schemas fit a set, and which tests suit a schema: the bounds that this project sets to
-- what policies and schemas say.
use Rattle.std.specs.Prelude.{◌≡◌, ◌≢◌, ◌≤◌, ◌+◌, ⊤, ℕ, List, [], length, sum_by, false, IsTrue, All as Each}
use Rattle.std.specs.Prelude.{Option, Some, None, IfSome, MatchOption}
use Rattle.text_table.specs.Table.{item_at}
use Rattle.std.specs.Char.{IsAsciiDigit}
use Rattle.policy_model.specs.declared.principal.TheConstants.{ACCOUNT_DIGITS}
use Rattle.policy_model.specs.declared.principal.Entry.{Entry}
use Rattle.policy_model.specs.declared.principal.Entry.TheVariants.{All, Kind, Account, Exact}
use Rattle.policy_model.specs.declared.matcher.Matcher.{Matcher}
use Rattle.wildcard_lang.specs.Patterns.{IsPattern}
use Rattle.wildcard_lang.specs.declared.pattern.TheConstants.{MOST_PIECES}
use Rattle.wildcard_lang.specs.declared.piece.Piece.{Piece}
use Rattle.policy_model.specs.declared.value.Kind.TheVariants.{Text}
use Rattle.policy_model.specs.declared.value.Value.{Value}
use Rattle.policy_model.specs.declared.value.Value.TheVariants.{Word}
use Rattle.policy_model.specs.declared.schema.KeyRule.{KeyRule}
use Rattle.policy_model.specs.declared.schema.Shapes.{Shapes}
use Rattle.policy_model.specs.declared.schema.Schema.{Schema}
use Rattle.policy_model.specs.declared.operator.Base.TheVariants.{Null}
use Rattle.policy_model.specs.declared.operator.Quantifier.TheVariants.{Plain}
use Rattle.policy_model.specs.declared.operator.Operator.{Operator}
use Rattle.policy_model.specs.declared.operator.Condition.{Condition}
use Rattle.policy_model.specs.declared.set.Statement.{Statement}
use Rattle.policy_model.specs.declared.set.Document.{Document}
use Rattle.policy_model.specs.declared.set.PolicySet.{PolicySet}
use Rattle.policy_model.specs.declared.test.Test.{Test}
use Rattle.policy_model.specs.declared.test.Test.TheVariants.{Principal, Action, Resource, Present, SomeMeets, SomeMeetsNone}
use Rattle.policy_model.specs.Conds.{IsCondOf}
use Rattle.policy_model.specs.Keys.{IsFolded}
use Rattle.policy_model.specs.Operators.{IsOperandOf, family_of, takes_family}
use Rattle.policy_model.specs.Requests.{IsOfKind}

-- twelve ASCII digits
pub record IsAccount (account : List ℕ) : Type 0 where
  pub digits : Each IsAsciiDigit account
  pub count : length account ≡ ACCOUNT_DIGITS

-- an account is twelve digits, and an exact id has at most as many characters as a pattern has pieces
abbrev pub EntryIsSound : Entry → Type 0
EntryIsSound All = ⊤
EntryIsSound (Kind kind) = ⊤
EntryIsSound (Account account) = IsAccount account
EntryIsSound (Exact kind id) = length id ≤ MOST_PIECES

abbrev pub PrincipalIsSound : Option (Matcher Entry) → Type 0
PrincipalIsSound None = ⊤
PrincipalIsSound (Some m) = Each EntryIsSound m.items

-- `Null` has neither a prefix nor `IfExists`
abbrev pub OperatorIsSound : Operator → Type 0
OperatorIsSound o = o.base ≡ Null → (o.quantifier ≡ Plain) × (o.if_exists ≡ false)

-- the key's ASCII letters are lowered, and each value is of the form that the operator's family takes
pub record ConditionIsSound (c : Condition) : Type 0 where
  pub key : IsFolded c.key
  pub operator : OperatorIsSound c.operator
  pub values : Each (IsOperandOf (family_of c.operator.base)) c.values

pub record StatementIsSound (s : Statement) : Type 0 where
  pub principal : PrincipalIsSound s.principal
  pub conditions : Each ConditionIsSound s.conditions

-- statements are numbered by 32 bits
pub record DocumentIsSound (d : Document) : Type 0 where
  pub count : length d.statements ≤ 4294967295
  pub each : Each StatementIsSound d.statements

-- documents and guards are numbered by 32 bits
pub record IsSound (set : PolicySet) : Type 0 where
  pub documents : length set.grants + sum_by (λ g. length g) set.guards ≤ 4294967295
  pub guards : length set.guards ≤ 4294967295
  pub granting : Each DocumentIsSound set.grants
  pub guarding : Each (λ g. Each DocumentIsSound g) set.guards

-- a listed text has at most as many characters as a pattern has pieces
abbrev pub IsShortValue : Value → Type 0
IsShortValue (Word t) = length t ≤ MOST_PIECES
IsShortValue v = ⊤

-- listed values: there is one, and each is of the kind
abbrev pub ListIsSound : Option (List Value) → KeyRule → Type 0
ListIsSound None rule = ⊤
ListIsSound (Some listed) rule = (listed ≢ []) × Each (IsOfKind rule.kind) listed × Each IsShortValue listed

-- a shape is a pattern, and is given to keys of texts alone, and not beside listed values
abbrev pub ShapeIsSound : Option (List Piece) → KeyRule → Type 0
ShapeIsSound None rule = ⊤
ShapeIsSound (Some shape) rule = IsPattern shape × (rule.kind ≡ Text) × (rule.among ≡ None)

pub record RuleIsSound (rule : KeyRule) : Type 0 where
  pub listed : ListIsSound rule.among rule
  pub shape : ShapeIsSound rule.shape rule

-- the shape of a word, where one is given, is a pattern other than the empty one, since words aren't empty
pub record WordShapeIsSound (shape : Option (List Piece)) : Type 0 where
  pub pattern : IfSome shape IsPattern
  pub nonempty : shape ≢ Some []

pub record ShapesAreSound (shapes : Shapes) : Type 0 where
  pub action : WordShapeIsSound shapes.action
  pub resource : WordShapeIsSound shapes.resource
  pub aws : WordShapeIsSound shapes.aws
  pub service : WordShapeIsSound shapes.service
  pub federated : WordShapeIsSound shapes.federated
  pub canonical_user : WordShapeIsSound shapes.canonical_user

-- each rule and each shape can be met, so that there is a valid request
pub record SchemaIsSound (schema : Schema) : Type 0 where
  pub rules : Each (λ entry. RuleIsSound entry.1) schema.keys
  pub shapes : ShapesAreSound schema.shapes

-- a rule takes an operator: its kind takes the operator's family, and a key that may have several values takes no operator
-- without a prefix but `Null`
pub record RuleTakes (rule : KeyRule) (o : Operator) : Type 0 where
  pub kind : IsTrue (takes_family rule.kind (family_of o.base))
  pub single : o.base ≢ Null → o.quantifier ≡ Plain → rule.many ≡ false

-- the key is one of the schema, and P holds of its rule
abbrev pub IsKeyWith : Schema → (KeyRule → Type 0) → List ℕ → Type 0
IsKeyWith schema P key = MatchOption (item_at key schema.keys) ⊥ P

-- the rule of the condition's key takes its operator
abbrev pub ConditionFits : Schema → Condition → Type 0
ConditionFits schema c = IsKeyWith schema (λ rule. RuleTakes rule c.operator) c.key

-- each condition of the document fits
abbrev pub DocumentFits : Schema → Document → Type 0
DocumentFits schema d = Each (λ s. Each (ConditionFits schema) s.conditions) d.statements

-- the schema can answer for the set: the set is sound, and each of its conditions, in grants and guards, fits
pub record SchemaFits (schema : Schema) (set : PolicySet) : Type 0 where
  pub sound : IsSound set
  pub granting : Each (DocumentFits schema) set.grants
  pub guarding : Each (λ g. Each (DocumentFits schema) g) set.guards

-- the schema can answer for the test: a key is one of the schema, and what is asked is asked of values of its kind
abbrev pub TestSuits : Schema → Test → Type 0
TestSuits schema (Principal entry) = EntryIsSound entry
TestSuits schema (Action pattern) = ⊤
TestSuits schema (Resource pattern) = ⊤
TestSuits schema (Present key) = IsKeyWith schema (λ rule. ⊤) key
TestSuits schema (SomeMeets key c) = IsKeyWith schema (λ rule. IsCondOf rule.kind c) key
TestSuits schema (SomeMeetsNone key cs) = IsKeyWith schema (λ rule. Each (IsCondOf rule.kind) cs) key
