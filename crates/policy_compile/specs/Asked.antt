-- Where the tests of a set's query come from: which tests the elements and the conditions of a statement ask.
use Rattle.std.specs.Prelude.{◌≡◌, ◌⊎◌, ℕ, List, Any, Contains, false, Option, Some, None}
use Rattle.policy_model.specs.Conditions.{conds_of, kind_at}
use Rattle.policy_model.specs.Operators.{cond_of, is_null}
use Rattle.policy_model.specs.declared.matcher.Matcher.{Matcher}
use Rattle.policy_model.specs.declared.cond.Cond.{Cond}
use Rattle.policy_model.specs.declared.operator.Condition.{Condition}
use Rattle.policy_model.specs.declared.schema.Schema.{Schema}
use Rattle.policy_model.specs.declared.set.Statement.{Statement}
use Rattle.policy_model.specs.declared.set.Document.{Document}
use Rattle.policy_model.specs.declared.set.PolicySet.{PolicySet}
use Rattle.policy_model.specs.declared.test.Test.{Test}
use Rattle.policy_model.specs.declared.test.Test.TheVariants.{Principal, Action, Resource, Present, SomeMeets, SomeMeetsNone}

-- the element is there, and the item is one of its items
abbrev pub HasItem : {T : Type 0} → Option (Matcher T) → T → Type 0
HasItem None item = ⊥
HasItem (Some m) item = Contains m.items item

-- by an operator other than `Null` some value of the condition asks this of a value of the key
pub record AsksOfValue (schema : Schema) (key : List ℕ) (asked : Cond) (c : Condition) : Type 0 where
  pub key_is : c.key ≡ key
  pub compares : is_null c.operator.base ≡ false
  pub value : Any (λ o. asked ≡ cond_of (kind_at schema c.key) c.operator.base o) c.values

-- the same of all of its values together
pub record AsksOfValues (schema : Schema) (key : List ℕ) (asked : List Cond) (c : Condition) : Type 0 where
  pub key_is : c.key ≡ key
  pub compares : is_null c.operator.base ≡ false
  pub values : asked ≡ conds_of (kind_at schema c.key) c

-- the condition asks the test: whether its key is present, or what its values ask of those of the key
abbrev pub ConditionAsks : Schema → Test → Condition → Type 0
ConditionAsks schema (Principal entry) c = ⊥
ConditionAsks schema (Action pattern) c = ⊥
ConditionAsks schema (Resource pattern) c = ⊥
ConditionAsks schema (Present key) c = c.key ≡ key
ConditionAsks schema (SomeMeets key asked) c = AsksOfValue schema key asked c
ConditionAsks schema (SomeMeetsNone key asked) c = AsksOfValues schema key asked c

-- the statement asks the test: an entry of its principals, a pattern of its actions or of its resources, or one of its conditions
abbrev pub IsAskedBy : Schema → Test → Statement → Type 0
IsAskedBy schema (Principal entry) s = HasItem s.principal entry
IsAskedBy schema (Action pattern) s = Contains s.action.items pattern
IsAskedBy schema (Resource pattern) s = HasItem s.resource pattern
IsAskedBy schema (Present key) s = Any (ConditionAsks schema (Present key)) s.conditions
IsAskedBy schema (SomeMeets key asked) s = Any (ConditionAsks schema (SomeMeets key asked)) s.conditions
IsAskedBy schema (SomeMeetsNone key asked) s = Any (ConditionAsks schema (SomeMeetsNone key asked)) s.conditions

-- P holds of some statement of the documents, and of some statement of the set, in its grants or in a guard
abbrev pub SomeStatementIn : (Statement → Type 0) → List Document → Type 0
SomeStatementIn P documents = Any (λ d. Any P d.statements) documents

abbrev pub SomeStatementOf : (Statement → Type 0) → PolicySet → Type 0
SomeStatementOf P set = SomeStatementIn P set.grants ⊎ Any (SomeStatementIn P) set.guards

-- each statement of the part is one of the set
abbrev pub HasStatementsOf : PolicySet → PolicySet → Type 0
HasStatementsOf set part = (s : Statement) → SomeStatementOf (λ t. t ≡ s) part → SomeStatementOf (λ t. t ≡ s) set
