-- Which schema a run has on a set and on what is outside a zone.
use Rattle.std.specs.Prelude.{None, Ok}
use Rattle.policy_model.specs.declared.schema.Schema.{Schema}
use Rattle.policy_model.specs.declared.set.PolicySet.{PolicySet}
use Rattle.request_schema.specs.RunSchemas.{IsInferred}
use Rattle.trust_zones.specs.declared.zone.Zone.{Zone}
use Rattle.trust_zones.specs.Zones.{TakesZone, outside}

-- where a run on the set has the schema, which takes the zone, a run on the set of what is outside has the same schema, whatever the
-- named keys are
abbrev pub ZonesKeepSchemas : Type 0
ZonesKeepSchemas = (named schema : Schema) (set : PolicySet) (zone : Zone) →
    IsInferred named set None (Ok schema) → TakesZone schema zone → IsInferred named (outside set zone) None (Ok schema)
