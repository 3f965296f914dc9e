-- Which questions may be asked, and that there is one proof at most that one may.
use Rattle.std.specs.Prelude.{◌^◌, ◌<◌, List, length, Option, Some, None, All}
use Rattle.std.proofs.Props.{props}
use Rattle.formula_tree.specs.Answers.{Answers}
use Rattle.wildcard_lang.specs.declared.piece.Piece.{Piece}
use Rattle.policy_model.specs.declared.principal.Entry.{Entry}
use Rattle.policy_model.specs.declared.principal.Entry.TheVariants.{Account}
use Rattle.policy_model.specs.declared.value.Kind.{Kind}
use Rattle.policy_model.specs.declared.value.Kind.TheVariants as kind
use Rattle.policy_model.specs.declared.value.Value.{Value}
use Rattle.policy_model.specs.declared.value.Value.TheVariants as value
use Rattle.policy_model.specs.declared.schema.KeyRule.{KeyRule}
use Rattle.policy_model.specs.declared.schema.Schema.{Schema}
use Rattle.policy_model.specs.declared.test.Test.{Test}
use Rattle.policy_model.specs.declared.test.Test.TheVariants.{Principal, SomeMeets, SomeMeetsNone}
use Rattle.policy_model.specs.declared.cond.Cond.{Cond}
use Rattle.policy_model.specs.Requests.{IsOfKind}
use Rattle.policy_model.specs.Conds.{IsCondOf}
use Rattle.policy_model.specs.Soundness.{EntryIsSound, IsShortValue, ListIsSound, SchemaIsSound, ShapeIsSound, TestSuits}
use Rattle.slot_theory.specs.Possible.{PathInRange}

-- what may be asked: the schema is sound, the tests suit it and are numbered by 32 bits, and the path answers none but them
pub record IsAskable (schema : Schema) (tests : List Test) (path : Answers) : Type 0 where
  pub sound : SchemaIsSound schema
  pub suit : All (TestSuits schema) tests
  pub count : length tests < 2 ^ 32
  pub range : PathInRange tests path

IsOfKind-prop : (k : Kind) (v : Value) → IsProp (IsOfKind k v)
IsOfKind-prop kind.Text (value.Word t) = Prim.hlevel props
IsOfKind-prop kind.Truth (value.Truth b) = Prim.hlevel props
IsOfKind-prop kind.Number (value.Number n) = Prim.hlevel props
IsOfKind-prop kind.Address (value.Address a) = Prim.hlevel props
IsOfKind-prop kind.Bytes (value.Bytes bs) = Prim.hlevel props
IsOfKind-prop k v = Prim.hlevel props

IsShortValue-prop : (v : Value) → IsProp (IsShortValue v)
IsShortValue-prop (value.Word t) = Prim.hlevel props
IsShortValue-prop v = Prim.hlevel props

ListIsSound-prop : (among : Option (List Value)) (rule : KeyRule) → IsProp (ListIsSound among rule)
ListIsSound-prop None rule = Prim.hlevel props
ListIsSound-prop (Some listed) rule = Prim.hlevel (IsOfKind-prop, IsShortValue-prop, props)

ShapeIsSound-prop : (shape : Option (List Piece)) (rule : KeyRule) → IsProp (ShapeIsSound shape rule)
ShapeIsSound-prop None rule = Prim.hlevel props
ShapeIsSound-prop (Some shape) rule = Prim.hlevel props

EntryIsSound-prop : (e : Entry) → IsProp (EntryIsSound e)
EntryIsSound-prop (Account account) = Prim.hlevel props
EntryIsSound-prop e = Prim.hlevel props

IsCondOf-prop : (c : Cond) (rule : KeyRule) → IsProp (IsCondOf rule.kind c)
IsCondOf-prop c rule = Prim.hlevel props

AreCondsOf-prop : (cs : List Cond) (rule : KeyRule) → IsProp (All (IsCondOf rule.kind) cs)
AreCondsOf-prop cs rule = Prim.hlevel props

TestSuits-prop : (schema : Schema) (t : Test) → IsProp (TestSuits schema t)
TestSuits-prop schema (Principal e) = EntryIsSound-prop e
TestSuits-prop schema (SomeMeets key c) = Prim.hlevel (IsCondOf-prop c, props)
TestSuits-prop schema (SomeMeetsNone key cs) = Prim.hlevel (AreCondsOf-prop cs, props)
TestSuits-prop schema t = Prim.hlevel props

pub IsAskable-prop : (schema : Schema) (tests : List Test) (path : Answers) → IsProp (IsAskable schema tests path)
IsAskable-prop schema tests path = Prim.hlevel (ListIsSound-prop, ShapeIsSound-prop, TestSuits-prop, props)
