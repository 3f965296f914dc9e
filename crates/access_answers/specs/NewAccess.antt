-- What a change of sets newly allows, and the findings of it.
use Rattle.std.specs.Prelude.{◌≡◌, ◌↔◌, ℕ, List, [], All, Any}
use Rattle.policy_model.specs.declared.request.Request.{Request}
use Rattle.policy_model.specs.Requests.{IsValid}
use Rattle.strata.specs.declared.stratum.Stratum.{Stratum}
use Rattle.findings.specs.declared.region.Region.TheVariants.{NewlyAllowed}
use Rattle.findings.specs.Findings.{LiesInFinding}
use Rattle.findings.specs.Regions.{LiesInRegion}
use Rattle.findings.specs.Summaries.{findings_of}
use Rattle.run_inputs.specs.declared.pair.Pair.{Pair}
use Rattle.compare_answers.specs.Comparison.{Covers}

-- the request is newly allowed: it is valid under the schema of the run, the first set allows it, and the second doesn't
abbrev pub IsNewlyAllowed : Pair → Request → Type 0
IsNewlyAllowed pair r = IsValid pair.schema r × LiesInRegion pair.schema (NewlyAllowed pair.first pair.second) r

-- the findings by these dimensions are those of all new access: the request beside each is newly allowed, each newly allowed request lies
-- in one of them, and there are none exactly where the second set covers the first, as a comparison of the two says it
pub record AreOfAllNewAccess (pair : Pair) (ds : List Stratum) (pairs : List (List ℕ × Request)) : Type 0 where
  pub each : All (λ p. IsNewlyAllowed pair p.1) pairs
  pub all : (r : Request) → IsNewlyAllowed pair r → Any (LiesInFinding r ds) (findings_of pairs)
  pub none : (pairs ≡ []) ↔ Covers pair
