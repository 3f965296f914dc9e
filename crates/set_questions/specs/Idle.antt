-- Whether the statement matters to what the set allows.
use Rattle.std.specs.Prelude.{◌≡◌, ◌⊎◌, ◌↔◌, Any, Contains}
use Rattle.policy_model.specs.declared.request.Request.{Request}
use Rattle.policy_model.specs.declared.schema.Schema.{Schema}
use Rattle.policy_model.specs.declared.set.PolicySet.{PolicySet}
use Rattle.policy_model.specs.declared.set.Statement.{Statement}
use Rattle.policy_model.specs.declared.set.StatementName.{StatementName}
use Rattle.policy_model.specs.Requests.{IsValid}
use Rattle.policy_model.specs.Sets.{Allows}
use Rattle.policy_model.specs.StatementNames.{named_set}
use Rattle.set_questions.specs.Removal.{without_statement}

-- ---- names

-- the name is that of a statement of the set
abbrev pub IsNameIn : PolicySet → StatementName → Type 0
IsNameIn set name = Any (λ n. n.0 ≡ name) (named_set set)

-- P holds of the statement that has the name
abbrev pub EachNamed : PolicySet → StatementName → (Statement → Type 0) → Type 0
EachNamed set name P = (s : Statement) → Contains (named_set set) (name, s) → P s

-- ---- what a statement does

-- just one of the two sets allows the request
abbrev pub Differ : Schema → PolicySet → PolicySet → Request → Type 0
Differ schema one other r =
    (Allows schema one r × ¬ Allows schema other r) ⊎ (Allows schema other r × ¬ Allows schema one r)

-- the request is valid, and the set answers it otherwise than without the statement
pub record IsUsedBy (schema : Schema) (set : PolicySet) (name : StatementName) (r : Request) : Type 0 where
  pub valid : IsValid schema r
  pub differ : Differ schema set (without_statement set name) r

-- without the statement the set allows the same valid requests
abbrev pub IsIdle : Schema → PolicySet → StatementName → Type 0
IsIdle schema set name = (r : Request) → IsValid schema r → (Allows schema set r ↔ Allows schema (without_statement set name) r)
