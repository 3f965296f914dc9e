-- What holds of each statement that a program has, since its types keep it: ids and keys are texts, lists of Unicode scalars, and
-- patterns are patterns.
use Rattle.std.specs.Prelude.{⊤, All as Each, IfSome}
use Rattle.wildcard_lang.specs.Patterns.{IsPattern}
use Rattle.wildcard_lang.specs.Text.{IsText}
use Rattle.policy_model.specs.declared.operator.Condition.{Condition}
use Rattle.policy_model.specs.declared.operator.Operand.{Operand}
use Rattle.policy_model.specs.declared.operator.Operand.TheVariants.{Pattern, Number, Block, Truth, Bytes}
use Rattle.policy_model.specs.declared.principal.Entry.{Entry}
use Rattle.policy_model.specs.declared.principal.Entry.TheVariants.{All, Kind, Account, Exact}
use Rattle.policy_model.specs.declared.set.Statement.{Statement}

abbrev pub EntryIsKept : Entry → Type 0
EntryIsKept All = ⊤
EntryIsKept (Kind kind) = ⊤
EntryIsKept (Account account) = IsText account
EntryIsKept (Exact kind id) = IsText id

abbrev pub OperandIsKept : Operand → Type 0
OperandIsKept (Pattern pattern) = IsPattern pattern
OperandIsKept (Number units) = ⊤
OperandIsKept (Block block) = ⊤
OperandIsKept (Truth truth) = ⊤
OperandIsKept (Bytes bytes) = ⊤

pub record ConditionIsKept (c : Condition) : Type 0 where
  pub key : IsText c.written
  pub values : Each OperandIsKept c.values

pub record StatementIsKept (s : Statement) : Type 0 where
  pub principal : IfSome s.principal (λ m. Each EntryIsKept m.items)
  pub action : Each IsPattern s.action.items
  pub resource : IfSome s.resource (λ m. Each IsPattern m.items)
  pub conditions : Each ConditionIsKept s.conditions
