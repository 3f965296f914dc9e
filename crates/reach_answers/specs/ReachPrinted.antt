-- What may be printed to the question who is allowed anything from outside a trust zone.
use Rattle.std.specs.Prelude.{◌≡◌, ◌⊎◌, ℕ, List, [], Option, None, Ok, All, Any}
use Rattle.command_words.specs.Asked.{Summarising}
use Rattle.findings.specs.declared.region.Region.TheVariants.{AllowedBy}
use Rattle.findings.specs.Findings.{LiesInFinding}
use Rattle.findings.specs.Summaries.{findings_of}
use Rattle.policy_model.specs.declared.request.Request.{Request}
use Rattle.policy_model.specs.Requests.{IsValid}
use Rattle.policy_model.specs.Sets.{Allows}
use Rattle.policy_model.specs.declared.schema.Schema.{Schema}
use Rattle.request_schema.specs.RunSchemas.{IsInferred}
use Rattle.summary_search.specs.declared.outcome.Limits.{Limits}
use Rattle.trust_zones.specs.declared.zone.Zone.{Zone}
use Rattle.trust_zones.specs.Zones.{IsInside, outside}
use Rattle.run_inputs.specs.declared.printed.Printed.{Printed}
use Rattle.run_inputs.specs.declared.one_set.OneSet.{OneSet}
use Rattle.run_inputs.specs.OneSets.{IsOneSetRefusal, SomeOneSet}
use Rattle.run_inputs.specs.Refusals.{IsRefusedBy}
use Rattle.summary_answers.specs.declared.answer.Found.{Found}
use Rattle.summary_answers.specs.declared.subject.Subject.{Subject}
use Rattle.summary_answers.specs.Found.{IsNotFound}
use Rattle.summary_answers.specs.Printed.{IsFoundPrinted, limits_in, status_by}
use Rattle.reach_answers.specs.ZoneRefusals.{IsZoneRefused, OfZone}

-- ---- who reaches

-- the request is valid, the set allows it, and it doesn't come from inside the zone
pub record ReachesFromOutside (one : OneSet) (zone : Zone) (r : Request) : Type 0 where
  pub valid : IsValid one.schema r
  pub allowed : Allows one.schema one.set r
  pub outside : ¬ IsInside zone r

-- What was found says who reaches from outside: the request of each finding does, each request that does lies in some finding, and
-- where there is no finding none does
pub record SaysWhoReaches (one : OneSet) (zone : Zone) (found : Found) : Type 0 where
  pub reach : All (λ p. ReachesFromOutside one zone p.1) found.summary
  pub covers : (r : Request) → ReachesFromOutside one zone r →
      Any (LiesInFinding r found.strata.dimensions) (findings_of found.summary)
  pub nobody : found.summary ≡ [] → (r : Request) → ¬ ReachesFromOutside one zone r

-- ---- what is printed

-- what the set allows outside the zone, under the same schema
abbrev pub left_outside : OneSet → Zone → Subject
left_outside one zone = record { schema = one.schema; region = AllowedBy (outside one.set zone) }

-- under the named keys that give the set this schema, what is outside the zone has it in a run of its own
abbrev pub HasOwnRun : OneSet → Zone → Type 0
HasOwnRun one zone = (named : Schema) →
    IsInferred named one.set None (Ok one.schema) → IsInferred named (outside one.set zone) None (Ok one.schema)

-- what is found of what is outside is printed, a finding is a failure, and it says who reaches, as a summary of the set of what is
-- outside does
pub record IsReachFound (names : List (List ℕ)) (limits : Limits) (one : OneSet) (zone : Zone) (p : Printed) : Type 0 where
  pub printed : IsFoundPrinted status_by names limits (left_outside one zone) p
  pub says : SaysWhoReaches one zone printed.found
  pub own : HasOwnRun one zone

-- of a set and a zone: why what is outside isn't summarised, or what is found of it
abbrev pub IsZonePrinted : List (List ℕ) → Limits → OneSet → Zone → Printed → Type 0
IsZonePrinted names limits one zone p =
    IsNotFound names limits (left_outside one zone) p ⊎ IsReachFound names limits one zone p

-- of a set under the schema of its run: why the file stands for no zone, or what is printed of the zone that it stands for
abbrev pub IsReachOfSet : List (List ℕ) → Limits → List ℕ → OneSet → Printed → Type 0
IsReachOfSet names limits bytes one p =
    IsZoneRefused one.schema bytes p ⊎ OfZone one.schema bytes (λ zone. IsZonePrinted names limits one zone p)

-- the bytes of the files: of the set, of the zone, and of the schema where one is named
pub record ReachContents : Type 0 where
  pub set : List ℕ
  pub zone : List ℕ
  pub schema : Option (List ℕ)

abbrev pub reach_contents : List ℕ → List ℕ → Option (List ℕ) → ReachContents
reach_contents set zone schema = record { set = set; zone = zone; schema = schema }

-- of files: why they stand for no set, or what is printed of the set that they stand for
abbrev pub IsReachPrinted : Summarising → ReachContents → Printed → Type 0
IsReachPrinted s c p =
    IsRefusedBy (IsOneSetRefusal c.set c.schema) p
    ⊎ SomeOneSet c.set c.schema (λ one. IsReachOfSet s.dimensions (limits_in s) c.zone one p)
