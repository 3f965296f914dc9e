-- That strata of a region's query are what findings of the region are asked of.
use Rattle.std.specs.Prelude.{◌<◌, ◌^◌, ℕ, List}
use Rattle.policy_model.specs.declared.schema.Schema.{Schema}
use Rattle.policy_model.specs.declared.test.Slot.{Slot}
use Rattle.policy_compile.specs.declared.outcome.Query.{Query}
use Rattle.strata.specs.declared.stratum.Strata.{Strata}
use Rattle.findings.specs.declared.region.Region.{Region}
use Rattle.findings.specs.Queries.{AreMadeFor}
use Rattle.summary_search.specs.Outcomes.{AreAskable, AreStrataWithin, IsQueryOfRegion}

-- strata of the region's query by slots that differ, under a sound schema that fits the region, are made for the region
abbrev pub StrataAreMade : Type 0
StrataAreMade =
    (most : ℕ) (schema : Schema) (region : Region) (query : Query) (slots : List Slot) (strata : Strata) → most < 2 ^ 32 →
    AreAskable schema slots → IsQueryOfRegion schema region query → AreStrataWithin most schema query slots strata →
    AreMadeFor schema region query strata
