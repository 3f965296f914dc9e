-- What one file is refused for, behind others that stand for something, is what all are refused for.
use Rattle.std.proofs.Common.{ℕ, List, Option}
use Rattle.policy_model.specs.declared.schema.Schema.{Schema}
use Rattle.policy_model.specs.declared.set.PolicySet.{PolicySet}
use Rattle.run_inputs.specs.declared.role.Role.TheVariants as role
use Rattle.run_inputs.specs.declared.one_set.OneSet.{OneSet}
use Rattle.run_inputs.specs.declared.pair.Pair.{Pair}
use Rattle.run_inputs.specs.declared.refusal.Refusal.{Refusal}
use Rattle.run_inputs.specs.declared.refusal.Refusal.TheVariants as refusal
use Rattle.run_inputs.specs.OneSets.{IsSetRunRefusal, IsOneSetRefusal, IsSetRunOf, IsOneSetOf}
use Rattle.run_inputs.specs.Pairs.{Contents, IsPairRefusal, IsPairRunRefusal, IsPairOf, IsPairRunOf}
use Rattle.run_inputs.specs.Standing.{IsSchemaFileRefusal, IsSetFileRefusal, NamesSchema, StandsFor}

-- ---- two sets

pub schema_refuses : (c : Contents) (r : Refusal) → IsSchemaFileRefusal c.schema r → IsPairRefusal c r
schema_refuses c (refusal.BadSchema fault) is = is
schema_refuses c _ is = absurd is

module _ (c : Contents) (named : Schema) (names : NamesSchema c.schema named) where
  pub first_refuses : (r : Refusal) → IsSetFileRefusal role.First c.first r → IsPairRefusal c r
  first_refuses (refusal.BadSet role.First fault) is = ((named, names), is.1)
  first_refuses (refusal.BadSet file fault) is = absurd (cc is.0)
  first_refuses _ is = absurd is

  module _ (one : PolicySet) (first : StandsFor c.first one) where
    pub second_refuses : (r : Refusal) → IsSetFileRefusal role.Second c.second r → IsPairRefusal c r
    second_refuses (refusal.BadSet role.Second fault) is = ((named, names), (one, first), is.1)
    second_refuses (refusal.BadSet file fault) is = absurd (cc is.0)
    second_refuses _ is = absurd is

    module _ (two : PolicySet) (second : StandsFor c.second two) where
      pub run_refuses : (r : Refusal) → IsPairRunRefusal named one two r → IsPairRefusal c r
      run_refuses (refusal.BadCondition file fault) is =
          record { named = named; one = one; two = two; schema_stands = names; first_stands = first; second_stands = second; holds = is }
      run_refuses _ is = absurd is

      pub run_stands : (pair : Pair) → IsPairRunOf named one two pair → IsPairOf c pair
      run_stands pair is =
          record { named = named; one = one; two = two; schema_stands = names; first_stands = first; second_stands = second; holds = is }

-- ---- one set

module _ (bytes : List ℕ) (schema : Option (List ℕ)) where
  pub one_schema_refuses : (r : Refusal) → IsSchemaFileRefusal schema r → IsOneSetRefusal bytes schema r
  one_schema_refuses (refusal.BadSchema fault) is = is
  one_schema_refuses _ is = absurd is

  module _ (named : Schema) (names : NamesSchema schema named) where
    pub set_refuses : (r : Refusal) → IsSetFileRefusal role.Set bytes r → IsOneSetRefusal bytes schema r
    set_refuses (refusal.BadSet file fault) is = (is.0, (named, names), is.1)
    set_refuses _ is = absurd is

    module _ (set : PolicySet) (stands : StandsFor bytes set) where
      pub one_run_refuses : (r : Refusal) → IsSetRunRefusal named set r → IsOneSetRefusal bytes schema r
      one_run_refuses (refusal.BadCondition file fault) is =
          record { named = named; set = set; schema_stands = names; set_stands = stands; holds = is }
      one_run_refuses _ is = absurd is

      pub one_run_stands : (one : OneSet) → IsSetRunOf named set one → IsOneSetOf bytes schema one
      one_run_stands one is = record { named = named; set = set; schema_stands = names; set_stands = stands; holds = is }
