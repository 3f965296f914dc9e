-- The pair of sets that files stand for, under the schema of their run.
use Rattle.std.specs.Prelude.{◌≡◌, ℕ, List, Option, None, Some, Err, if◌then◌else◌}
use Rattle.policy_json.specs.Sets.{set_from}
use Rattle.policy_model.specs.declared.schema.Schema.{Schema}
use Rattle.policy_model.specs.declared.set.PolicySet.{PolicySet}
use Rattle.policy_model.specs.Soundness.{SchemaFits, SchemaIsSound}
use Rattle.request_schema.specs.RunSchemas.{FirstInferFault, infer_fault, schema_of_run}
use Rattle.request_schema.specs.declared.infer_fault.InferFault.{InferFault}
use Rattle.run_inputs.specs.declared.role.Role.{Role}
use Rattle.run_inputs.specs.declared.role.Role.TheVariants.{First, Second}
use Rattle.run_inputs.specs.declared.pair.Pair.{Pair}
use Rattle.run_inputs.specs.declared.refusal.Refusal.{Refusal}
use Rattle.run_inputs.specs.declared.refusal.Refusal.TheVariants.{BadSchema, BadSet, BadCondition}
use Rattle.run_inputs.specs.Standing.{HasSchema, HasSet, NamesSchema, SchemaFails, StandsFor}

-- two sets, under the schema of their run
abbrev pub pair_of_sets : Schema → PolicySet → PolicySet → Pair
pair_of_sets schema first second = record { schema = schema; first = first; second = second }

-- the schema can answer for both sets, and there are valid requests under it
pub record IsFitting (pair : Pair) : Type 0 where
  pub sound : SchemaIsSound pair.schema
  pub first : SchemaFits pair.schema pair.first
  pub second : SchemaFits pair.schema pair.second

-- ---- sets under named keys

-- the two sets, under the schema of their run: the named keys, and what the sets' operators say of each further key
abbrev pub pair_of : Schema → PolicySet → PolicySet → Pair
pair_of named one two = pair_of_sets (schema_of_run named one (Some two)) one two

-- no condition of the two sets is refused under the named keys, and of the sets under the schema of their run this holds
pub record SomePairRun (named : Schema) (one two : PolicySet) (P : Pair → Type 0) : Type 0 where
  pub answered : infer_fault named one (Some two) ≡ None
  pub holds : P (pair_of named one two)

-- the set that a condition stands in
abbrev pub infer_role : InferFault → Role
infer_role fault = (if fault.second then Second else First)

-- two sets under the schema of their run
abbrev pub IsPairRunOf : Schema → PolicySet → PolicySet → Pair → Type 0
IsPairRunOf named one two pair = SomePairRun named one two (λ p. p ≡ pair)

-- the first condition of two sets that the run has no schema for
abbrev pub IsPairRunRefusal : Schema → PolicySet → PolicySet → Refusal → Type 0
IsPairRunRefusal named one two (BadCondition role fault) = (role ≡ infer_role fault) × FirstInferFault named one (Some two) fault
IsPairRunRefusal named one two _ = ⊥

-- ---- files

-- the bytes of the files: of the two sets, and of the schema where one is named
pub record Contents : Type 0 where
  pub first : List ℕ
  pub second : List ℕ
  pub schema : Option (List ℕ)

abbrev pub contents : List ℕ → List ℕ → Option (List ℕ) → Contents
contents first second schema = record { first = first; second = second; schema = schema }

-- the files stand for a schema and two sets that satisfy P
pub record SomeReadSets (c : Contents) (P : Schema → PolicySet → PolicySet → Type 0) : Type 0 where
  pub named : Schema
  pub one : PolicySet
  pub two : PolicySet
  pub schema_stands : NamesSchema c.schema named
  pub first_stands : StandsFor c.first one
  pub second_stands : StandsFor c.second two
  pub holds : P named one two

-- of the pair that the files stand for this holds
abbrev pub SomePair : Contents → (Pair → Type 0) → Type 0
SomePair c P = SomeReadSets c (λ named one two. SomePairRun named one two P)

-- the pair that files stand for
abbrev pub IsPairOf : Contents → Pair → Type 0
IsPairOf c pair = SomePair c (λ p. p ≡ pair)

-- why files stand for no pair: the first that stands for nothing, with its first fault, in the order schema, first set, second set;
-- then the first condition of the two sets that the run has no schema for
abbrev pub IsPairRefusal : Contents → Refusal → Type 0
IsPairRefusal c (BadSchema fault) = SchemaFails c.schema fault
IsPairRefusal c (BadSet First fault) = HasSchema c.schema × (set_from c.first ≡ Err fault)
IsPairRefusal c (BadSet Second fault) = HasSchema c.schema × HasSet c.first × (set_from c.second ≡ Err fault)
IsPairRefusal c (BadCondition role fault) = SomeReadSets c (λ named one two. IsPairRunRefusal named one two (BadCondition role fault))
IsPairRefusal c _ = ⊥
