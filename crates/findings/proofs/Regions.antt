-- What a region's plan says of a valid request, and that its tests suit the schema.
use Rattle.std.proofs.Common.{◌<◌, List, [], ◌++◌, length, subst, arith}
use Rattle.std.specs.Prelude.{◌↔◌, All}
use Rattle.std.proofs.lemmas.List.{get_or_append_left, length-append}
use Rattle.policy_model.specs.declared.request.Request.{Request}
use Rattle.policy_model.specs.declared.schema.Schema.{Schema}
use Rattle.policy_model.specs.declared.test.Test.{Test}
use Rattle.policy_model.specs.Requests.{IsValid}
use Rattle.policy_model.specs.Soundness.{TestSuits}
use Rattle.policy_compile.specs.Plans.{PlanHolds, tests_in}
use Rattle.policy_compile.specs.Sets.{set_plan}
use Rattle.policy_compile.proofs.Laws.{query-holds, set-holds, suit-query}
use Rattle.findings.specs.declared.region.Region.{Region}
use Rattle.findings.specs.declared.region.Region.TheVariants.{AllowedBy, NewlyAllowed}
use Rattle.findings.specs.Regions.{LiesInRegion, RegionFits, region_plan}

pub region-holds : (schema : Schema) (r : Request) (region : Region) → RegionFits schema region → IsValid schema r → (PlanHolds r (region_plan schema region) ↔ LiesInRegion schema region r)
region-holds schema r (AllowedBy set) fits valid = set-holds schema r set fits valid
region-holds schema r (NewlyAllowed first second) fits valid = query-holds schema r first second fits.0 fits.1 valid

pub region-suits : (schema : Schema) (region : Region) → RegionFits schema region → All (TestSuits schema) (tests_in (region_plan schema region))
region-suits schema (NewlyAllowed first second) fits = suit-query schema first second fits.0 fits.1
region-suits schema (AllowedBy set) fits = λ k d within.
    let own : List Test = tests_in (set_plan schema set) in
    let longer : k < length (own ++ (own ++ [])) = omega (arith, within, length-append own (own ++ [])) in
    subst (TestSuits schema) (get_or_append_left own (own ++ []) d k within) (suit-query schema set set fits fits k d longer)
