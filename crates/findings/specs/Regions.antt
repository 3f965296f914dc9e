-- Regions of requests, which findings are of, and the plans that say which requests lie in them.
use Rattle.policy_model.specs.declared.request.Request.{Request}
use Rattle.policy_model.specs.declared.schema.Schema.{Schema}
use Rattle.policy_model.specs.Sets.{Allows}
use Rattle.policy_model.specs.Soundness.{SchemaFits}
use Rattle.policy_compile.specs.Plans.{Plan}
use Rattle.policy_compile.specs.Sets.{query_plan, set_plan}
use Rattle.findings.specs.declared.region.Region.{Region}
use Rattle.findings.specs.declared.region.Region.TheVariants.{AllowedBy, NewlyAllowed}

-- the request lies in the region: the set allows it, or the first set allows it and the second doesn't
abbrev pub LiesInRegion : Schema → Region → Request → Type 0
LiesInRegion schema (AllowedBy set) r = Allows schema set r
LiesInRegion schema (NewlyAllowed first second) r = Allows schema first r × ¬ Allows schema second r

-- what holds on a valid request where it lies in the region
abbrev pub region_plan : Schema → Region → Plan
region_plan schema (AllowedBy set) = set_plan schema set
region_plan schema (NewlyAllowed first second) = query_plan schema first second

-- the schema fits each set of the region
abbrev pub RegionFits : Schema → Region → Type 0
RegionFits schema (AllowedBy set) = SchemaFits schema set
RegionFits schema (NewlyAllowed first second) = SchemaFits schema first × SchemaFits schema second
