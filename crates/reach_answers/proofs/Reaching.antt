-- What is found of what is outside a zone says who reaches from outside.
use Rattle.std.proofs.Common.{◌≡◌, ℕ, List, Option, Any, arith, inl, inr, subst}
use Rattle.std.specs.Prelude.{Ok}
use Rattle.std.proofs.lemmas.List.Elements.{All-weaker}
use Rattle.findings.specs.declared.region.Region.{Region}
use Rattle.findings.specs.declared.region.Region.TheVariants.{AllowedBy}
use Rattle.findings.specs.Findings.{IsOwn, LiesInFinding}
use Rattle.findings.specs.Laws.{HasSummary, SummariesCover}
use Rattle.findings.specs.Summaries.{findings_of}
use Rattle.policy_json.specs.ReadForms.{IsReadForm, ReadSetsAreOfForms, SetLimits}
use Rattle.policy_model.specs.declared.request.Request.{Request}
use Rattle.policy_model.specs.declared.set.PolicySet.{PolicySet}
use Rattle.policy_model.proofs.Laws.{Any-nil}
use Rattle.summary_search.specs.declared.outcome.Limits.{Limits}
use Rattle.trust_zones.specs.declared.zone.Zone.{Zone}
use Rattle.trust_zones.specs.ZoneFiles.{zone_from}
use Rattle.trust_zones.specs.ZoneRuns.{ZonesKeepSchemas}
use Rattle.trust_zones.specs.Zones.{HasFreeNumber, TakesZone, ZonesLeaveTheOutside, outside}
use Rattle.run_inputs.specs.declared.printed.Printed.{Printed}
use Rattle.run_inputs.specs.declared.one_set.OneSet.{OneSet}
use Rattle.run_inputs.specs.OneSets.{IsOneSetOf}
use Rattle.summary_answers.specs.declared.answer.Found.{Found}
use Rattle.summary_answers.specs.declared.subject.Subject.{Subject}
use Rattle.summary_answers.specs.Found.{IsFoundOf}
use Rattle.summary_answers.specs.Printed.{IsSubjectPrinted, status_by}
use Rattle.reach_answers.specs.ReachPrinted.{IsReachOfSet, IsZonePrinted, ReachesFromOutside, SaysWhoReaches, left_outside}

-- ---- what is found

module _ (leave : ZonesLeaveTheOutside) (keep : ZonesKeepSchemas) (covers : SummariesCover) where
  says-who : (names : List (List ℕ)) (limits : Limits) (one : OneSet) (zone : Zone) (found : Found) → TakesZone one.schema zone → IsFoundOf names limits (left_outside one zone) found → SaysWhoReaches one zone found
  says-who names limits one zone found takes is =
      let ds = found.strata.dimensions in
      let left : Region = AllowedBy (outside one.set zone) in
      let from : HasSummary one.schema left found.strata found.summary = record { base = found.query; made = is.made; is = is.summary } in
      let cover : (r : Request) → ReachesFromOutside one zone r → Any (LiesInFinding r ds) (findings_of found.summary) =
      λ r reaches. covers one.schema left found.strata found.summary from r reaches.valid ((leave one.schema one.set zone r takes reaches.valid).1 (reaches.allowed, reaches.outside)) in
      record {
        reach = All-weaker (λ (p : List ℕ × Request). IsOwn one.schema left ds p.0 p.1) (λ p. ReachesFromOutside one zone p.1)
            (λ p own. let h = (leave one.schema one.set zone p.1 takes own.valid).0 own.allowed in record { valid = own.valid; allowed = h.0; outside = h.1 }) found.summary is.summary.own;
        covers = cover;
        nobody = λ none r reaches. Any-nil (LiesInFinding r ds) (subst (λ (s : List (List ℕ × Request)). Any (LiesInFinding r ds) (findings_of s)) none (cover r reaches));
      }

  -- what is printed of what is outside
  zone-said : (names : List (List ℕ)) (limits : Limits) (one : OneSet) (zone : Zone) → TakesZone one.schema zone → (p : Printed) → IsSubjectPrinted status_by names limits (left_outside one zone) p → IsZonePrinted names limits one zone p
  zone-said names limits one zone takes p (inl none) = inl none
  zone-said names limits one zone takes p (inr own) =
      inr (record { printed = own; says = says-who names limits one zone own.found takes own.is; own = λ named inferred. keep named one.schema one.set zone inferred takes })

  pub outside-printed : (names : List (List ℕ)) (limits : Limits) (one : OneSet) (left : Subject) (zone : Zone) → TakesZone one.schema zone → left ≡ left_outside one zone → (p : Printed) → IsSubjectPrinted status_by names limits left p → IsZonePrinted names limits one zone p
  outside-printed names limits one left zone takes is p printed =
      zone-said names limits one zone takes p (subst (λ (x : Subject). IsSubjectPrinted status_by names limits x p) is printed)

-- ---- the zone of a file

pub zone-printed : (names : List (List ℕ)) (limits : Limits) (bytes : List ℕ) (one : OneSet) (zone : Zone) → zone_from one.schema bytes ≡ Ok zone → (p : Printed) → IsZonePrinted names limits one zone p → IsReachOfSet names limits bytes one p
zone-printed names limits bytes one zone stands p said = inr (record { zone = zone; stands = stands; holds = said })

-- ---- a set that was read has a free number for one more document

free-set : (set : PolicySet) → SetLimits → IsReadForm set → HasFreeNumber set
free-set set limits form = let most = limits.0 in let few = form.documents in omega (arith, most, few)

pub free-one : ReadSetsAreOfForms → SetLimits → (bytes : List ℕ) (schema : Option (List ℕ)) (one : OneSet) → IsOneSetOf bytes schema one → HasFreeNumber one.set
free-one forms limits bytes schema one of = subst (λ (o : OneSet). HasFreeNumber o.set) of.holds.holds (free-set of.set limits (forms bytes of.set of.set_stands))
