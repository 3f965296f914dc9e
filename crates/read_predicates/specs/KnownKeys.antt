-- Conditions that stand for predicates of a set: they ask no key for more than the set does, so that a run on both sets has the schema
-- of a run on the set alone.
use Rattle.std.specs.Prelude.{◌≡◌, List, All as Each, Any, Contains, None, Some, Ok}
use Rattle.policy_model.specs.Conds.{cond_kind}
use Rattle.policy_model.specs.Soundness.{IsKeyWith}
use Rattle.policy_model.specs.declared.cond.Cond.{Cond}
use Rattle.policy_model.specs.declared.operator.Condition.{Condition}
use Rattle.policy_model.specs.declared.schema.Schema.{Schema}
use Rattle.policy_model.specs.declared.set.Document.{Document}
use Rattle.policy_model.specs.declared.set.PolicySet.{PolicySet}
use Rattle.policy_model.specs.declared.test.Slot.TheVariants as slot
use Rattle.policy_compile.specs.declared.outcome.Query.{Query}
use Rattle.request_schema.specs.KeyOperators.{IsOperatorOn}
use Rattle.request_schema.specs.RunSchemas.{IsInferred}
use Rattle.strata.specs.declared.predicate.Predicate.TheVariants.{Meets}
use Rattle.strata.specs.declared.stratum.Strata.{Strata}
use Rattle.strata.specs.declared.stratum.Stratum.{Stratum}
use Rattle.findings.specs.declared.region.Region.TheVariants.{AllowedBy}
use Rattle.findings.specs.Queries.{AreMadeFor}

-- the dimension is of the condition's key, and this is one of its predicates
pub record IsDimensionOf (c : Condition) (asked : Cond) (x : Stratum) : Type 0 where
  pub on : x.slot ≡ slot.Key c.key
  pub kept : Contains x.predicates (Meets asked)

-- the condition stands for a predicate of the strata: what is asked of a value of its key, by an operator for values of that kind
pub record StandsForPredicate (schema : Schema) (strata : Strata) (c : Condition) : Type 0 where
  pub asked : Cond
  pub dimension : Any (IsDimensionOf c asked) strata.dimensions
  pub operator : IsKeyWith schema (λ rule. IsOperatorOn (cond_kind asked) rule.many c.operator) c.key

-- P holds of each condition of the documents, and of the set
abbrev pub EachConditionIn : (Condition → Type 0) → List Document → Type 0
EachConditionIn P documents = Each (λ d. Each (λ s. Each P s.conditions) d.statements) documents

pub record EachConditionOf (P : Condition → Type 0) (set : PolicySet) : Type 0 where
  pub granting : EachConditionIn P set.grants
  pub guarding : Each (EachConditionIn P) set.guards

-- whichever of the two sets is the first, the schema is that of a run on both, and no condition of theirs is at fault
pub record IsInferredOfBoth (named : Schema) (set other : PolicySet) (schema : Schema) : Type 0 where
  pub first : IsInferred named set (Some other) (Ok schema)
  pub second : IsInferred named other (Some set) (Ok schema)

-- it is so where the schema is that of a run on the one set, and the conditions of the other stand for predicates of its strata
abbrev pub KnownKeysKeepSchemas : Type 0
KnownKeysKeepSchemas =
    (named schema : Schema) (set other : PolicySet) (base : Query) (strata : Strata) →
    IsInferred named set None (Ok schema) → AreMadeFor schema (AllowedBy set) base strata →
    EachConditionOf (StandsForPredicate schema strata) other → IsInferredOfBoth named set other schema
