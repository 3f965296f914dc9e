-- What policies that are written from findings say.
use Rattle.std.specs.Prelude.{◌≡◌, ◌≤◌, ◌↔◌, ℕ, List, length, Any, Ok}
use Rattle.policy_model.specs.declared.request.Request.{Request}
use Rattle.policy_model.specs.declared.schema.Schema.{Schema}
use Rattle.policy_model.specs.declared.set.PolicySet.{PolicySet}
use Rattle.policy_model.specs.Requests.{IsValid}
use Rattle.policy_model.specs.Sets.{Allows}
use Rattle.policy_compile.specs.declared.outcome.Query.{Query}
use Rattle.policy_json.specs.declared.statement.TheConstants.{MOST_STATEMENTS}
use Rattle.policy_json.specs.Sets.{set_from}
use Rattle.strata.specs.declared.stratum.Strata.{Strata}
use Rattle.findings.specs.declared.region.Region.TheVariants.{AllowedBy}
use Rattle.findings.specs.Findings.{LiesInFinding}
use Rattle.findings.specs.Laws.{HasSummary}
use Rattle.findings.specs.Queries.{AreMadeFor}
use Rattle.findings.specs.Summaries.{findings_of}
use Rattle.read_predicates.specs.Laws.{AreMadeFromFile}
use Rattle.policy_emit.specs.Emitted.{StatementsAreKept, emitted_set, policy_text}

-- where the strata were made for sets that files give, the text is read as the set of the findings
abbrev pub IsReadAsEmitted : Schema → Strata → List (List ℕ) → List ℕ → Type 0
IsReadAsEmitted schema strata fs text =
    AreMadeFromFile schema strata → set_from text ≡ Ok (emitted_set schema strata.dimensions fs)

-- so is the text of findings, of which there are at most as many as statements in a set, where their statements are such as a program
-- has
abbrev pub EmittedPoliciesAreRead : Type 0
EmittedPoliciesAreRead =
    (schema : Schema) (strata : Strata) (fs : List (List ℕ)) → length fs ≤ MOST_STATEMENTS →
    StatementsAreKept schema strata.dimensions fs →
    IsReadAsEmitted schema strata fs (policy_text schema strata.dimensions fs)

-- with strata of some set, the set of findings allows exactly the valid requests that lie in some of the findings
abbrev pub EmittedSetsAllowFindings : Type 0
EmittedSetsAllowFindings =
    (schema : Schema) (set : PolicySet) (base : Query) (strata : Strata) (fs : List (List ℕ)) →
    AreMadeFor schema (AllowedBy set) base strata → (r : Request) → IsValid schema r →
    Allows schema (emitted_set schema strata.dimensions fs) r ↔ Any (LiesInFinding r strata.dimensions) fs

-- so the set of a summary's findings allows each valid request that the summarised set allows
abbrev pub EmittedSetsAllowTheSet : Type 0
EmittedSetsAllowTheSet =
    (schema : Schema) (set : PolicySet) (strata : Strata) (summary : List (List ℕ × Request)) →
    HasSummary schema (AllowedBy set) strata summary → (r : Request) → IsValid schema r → Allows schema set r →
    Allows schema (emitted_set schema strata.dimensions (findings_of summary)) r
