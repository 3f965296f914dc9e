-- Which schema a run has on a set and on the set of its findings.
use Rattle.std.specs.Prelude.{ℕ, List, None, Ok}
use Rattle.policy_model.specs.declared.schema.Schema.{Schema}
use Rattle.policy_model.specs.declared.set.PolicySet.{PolicySet}
use Rattle.policy_compile.specs.declared.outcome.Query.{Query}
use Rattle.request_schema.specs.RunSchemas.{IsInferred}
use Rattle.strata.specs.declared.stratum.Strata.{Strata}
use Rattle.findings.specs.declared.region.Region.TheVariants.{AllowedBy}
use Rattle.findings.specs.Queries.{AreMadeFor}
use Rattle.read_predicates.specs.KnownKeys.{IsInferredOfBoth}
use Rattle.policy_emit.specs.Emitted.{emitted_set}

-- where the schema is that of a run on the set alone, it is that of a run on the set and the set of findings, whichever is the first,
-- and no condition of theirs is at fault
abbrev pub EmittedKeysAreKnown : Type 0
EmittedKeysAreKnown =
    (named schema : Schema) (set : PolicySet) (base : Query) (strata : Strata) (fs : List (List ℕ)) →
    IsInferred named set None (Ok schema) → AreMadeFor schema (AllowedBy set) base strata →
    IsInferredOfBoth named set (emitted_set schema strata.dimensions fs) schema
