-- What single files stand for.
use Rattle.std.specs.Prelude.{◌≡◌, ℕ, List, Option, Some, None, MatchOption, Ok, Err}
use Rattle.policy_json.specs.Sets.{set_from}
use Rattle.policy_model.specs.declared.schema.Schema.{Schema}
use Rattle.policy_model.specs.declared.set.PolicySet.{PolicySet}
use Rattle.request_schema.specs.BuiltIn.{built_in_schema}
use Rattle.request_schema.specs.SchemaFiles.{schema_from}
use Rattle.request_schema.specs.declared.schema_fault.SchemaFault.{SchemaFault}
use Rattle.run_inputs.specs.declared.role.Role.{Role}
use Rattle.run_inputs.specs.declared.refusal.Refusal.{Refusal}
use Rattle.run_inputs.specs.declared.refusal.Refusal.TheVariants.{BadSchema, BadSet}

-- the file stands for this set
abbrev pub StandsFor : List ℕ → PolicySet → Type 0
StandsFor bytes set = set_from bytes ≡ Ok set

-- the schema file stands for this schema; without one it is that of the built-in keys
abbrev pub NamesSchema : Option (List ℕ) → Schema → Type 0
NamesSchema None schema = schema ≡ built_in_schema
NamesSchema (Some bytes) schema = schema_from bytes ≡ Ok schema

-- a schema file is named, and this is its first fault
abbrev pub SchemaFails : Option (List ℕ) → SchemaFault → Type 0
SchemaFails file fault = MatchOption file ⊥ (λ bytes. schema_from bytes ≡ Err fault)

-- the schema file, or the built-in keys where none is named, stand for a schema
abbrev pub HasSchema : Option (List ℕ) → Type 0
HasSchema file = (schema : Schema) × NamesSchema file schema

-- the file stands for a set
abbrev pub HasSet : List ℕ → Type 0
HasSet bytes = (set : PolicySet) × StandsFor bytes set

-- why a schema file stands for none
abbrev pub IsSchemaFileRefusal : Option (List ℕ) → Refusal → Type 0
IsSchemaFileRefusal file (BadSchema fault) = SchemaFails file fault
IsSchemaFileRefusal file _ = ⊥

-- why the role's file stands for no set
abbrev pub IsSetFileRefusal : Role → List ℕ → Refusal → Type 0
IsSetFileRefusal role bytes (BadSet r fault) = (r ≡ role) × (set_from bytes ≡ Err fault)
IsSetFileRefusal role bytes _ = ⊥
