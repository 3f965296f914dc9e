-- The set that files stand for, under the schema of its run.
use Rattle.std.specs.Prelude.{◌≡◌, ℕ, List, Option, None, Err}
use Rattle.policy_json.specs.Sets.{set_from}
use Rattle.policy_model.specs.declared.schema.Schema.{Schema}
use Rattle.policy_model.specs.declared.set.PolicySet.{PolicySet}
use Rattle.policy_model.specs.Soundness.{SchemaFits, SchemaIsSound}
use Rattle.request_schema.specs.RunSchemas.{FirstInferFault, infer_fault, schema_of_run}
use Rattle.run_inputs.specs.declared.role.Role.TheVariants.{Set as set_file}
use Rattle.run_inputs.specs.declared.one_set.OneSet.{OneSet}
use Rattle.run_inputs.specs.declared.refusal.Refusal.{Refusal}
use Rattle.run_inputs.specs.declared.refusal.Refusal.TheVariants.{BadSchema, BadSet, BadCondition}
use Rattle.run_inputs.specs.Standing.{HasSchema, NamesSchema, SchemaFails, StandsFor}

-- the schema can answer for the set, and there are valid requests under it
pub record FitsItsSchema (one : OneSet) : Type 0 where
  pub sound : SchemaIsSound one.schema
  pub fits : SchemaFits one.schema one.set

-- ---- a set under named keys

-- the set, under the schema of its run: the named keys, and what its operators say of each further key
abbrev pub one_of : Schema → PolicySet → OneSet
one_of named set = record { schema = schema_of_run named set None; set = set }

-- no condition of the set is refused under the named keys, and of the set under the schema of its run this holds
pub record SomeSetRun (named : Schema) (set : PolicySet) (P : OneSet → Type 0) : Type 0 where
  pub answered : infer_fault named set None ≡ None
  pub holds : P (one_of named set)

-- a set under the schema of its run
abbrev pub IsSetRunOf : Schema → PolicySet → OneSet → Type 0
IsSetRunOf named set one = SomeSetRun named set (λ o. o ≡ one)

-- the first condition of a set that the run has no schema for
abbrev pub IsSetRunRefusal : Schema → PolicySet → Refusal → Type 0
IsSetRunRefusal named set (BadCondition role fault) = (role ≡ set_file) × FirstInferFault named set None fault
IsSetRunRefusal named set _ = ⊥

-- ---- files

-- the bytes of the files: of the set, and of the schema where one is named
pub record SetContents : Type 0 where
  pub set : List ℕ
  pub schema : Option (List ℕ)

abbrev pub set_contents : List ℕ → Option (List ℕ) → SetContents
set_contents set schema = record { set = set; schema = schema }

-- the files, of a set and of a schema where one is named, stand for a schema and a set that satisfy P
pub record SomeReadSet (set_bytes : List ℕ) (schema_bytes : Option (List ℕ)) (P : Schema → PolicySet → Type 0) : Type 0 where
  pub named : Schema
  pub set : PolicySet
  pub schema_stands : NamesSchema schema_bytes named
  pub set_stands : StandsFor set_bytes set
  pub holds : P named set

-- of the set that the files stand for, under the schema of its run, this holds
abbrev pub SomeOneSet : List ℕ → Option (List ℕ) → (OneSet → Type 0) → Type 0
SomeOneSet set schema P = SomeReadSet set schema (λ named one. SomeSetRun named one P)

-- the set that files stand for
abbrev pub IsOneSetOf : List ℕ → Option (List ℕ) → OneSet → Type 0
IsOneSetOf set schema one = SomeOneSet set schema (λ o. o ≡ one)

-- why files stand for no set: the first fault of the schema's, then of the set's; then the first condition of the set that the run has
-- no schema for
abbrev pub IsOneSetRefusal : List ℕ → Option (List ℕ) → Refusal → Type 0
IsOneSetRefusal set schema (BadSchema fault) = SchemaFails schema fault
IsOneSetRefusal set schema (BadSet role fault) = (role ≡ set_file) × HasSchema schema × (set_from set ≡ Err fault)
IsOneSetRefusal set schema (BadCondition role fault) = SomeReadSet set schema (λ named one. IsSetRunRefusal named one (BadCondition role fault))
IsOneSetRefusal set schema _ = ⊥
