-- Which statuses are printed to the question who reaches from outside a zone, and when it is found.
use Rattle.std.proofs.Common.{◌≡◌, ◌⊎◌, ℕ, List, inl, inr, subst, sym, ◌∙◌}
use Rattle.std.specs.Prelude.{Ok}
use Rattle.command_words.specs.Asked.{Summarising}
use Rattle.policy_model.specs.declared.schema.Schema.{Schema}
use Rattle.summary_search.specs.declared.outcome.Limits.{Limits}
use Rattle.trust_zones.specs.declared.zone.Zone.{Zone}
use Rattle.trust_zones.specs.ZoneFiles.{zone_from}
use Rattle.run_inputs.specs.declared.printed.Printed.{Printed}
use Rattle.run_inputs.specs.declared.status.Status.{Status}
use Rattle.run_inputs.specs.declared.status.Status.TheVariants as status
use Rattle.run_inputs.specs.Printing.{IsOfText}
use Rattle.run_inputs.specs.declared.one_set.OneSet.{OneSet}
use Rattle.run_inputs.specs.OneSets.{one_of}
use Rattle.run_inputs.proofs.Laws.{no_one_fails, of_same_set, refusal_with}
use Rattle.summary_answers.specs.Complete.{IsSummarisable}
use Rattle.summary_answers.specs.Printed.{limits_in}
use Rattle.summary_answers.proofs.Laws.{not_found_of_text, status_by_of_text, status_is_by, summarisable_subjects_are_found}
use Rattle.reach_answers.specs.ReachComplete.{IsReachable, ReachesDecide}
use Rattle.reach_answers.specs.ReachPrinted.{IsReachOfSet, IsReachPrinted, IsZonePrinted, ReachContents, left_outside}
use Rattle.reach_answers.specs.ZoneRefusals.{IsZoneRefused}

-- ---- statuses

zone_with : (names : List (List ℕ)) (limits : Limits) (one : OneSet) (zone : Zone) (p : Printed) → IsZonePrinted names limits one zone p → IsOfText p.status
zone_with names limits one zone p (inl none) = not_found_of_text names limits (left_outside one zone) p none
zone_with names limits one zone p (inr found) = subst IsOfText (sym found.printed.prints.1) (status_by_of_text found.printed.found.summary)

set_with : (names : List (List ℕ)) (limits : Limits) (bytes : List ℕ) (one : OneSet) (p : Printed) → IsReachOfSet names limits bytes one p → IsOfText p.status
set_with names limits bytes one p (inl refused) = subst IsOfText (sym refused.prints.1) tt
set_with names limits bytes one p (inr of) = zone_with names limits one of.zone p of.holds

pub reach_of_text : (s : Summarising) (c : ReachContents) (p : Printed) → IsReachPrinted s c p → IsOfText p.status
reach_of_text s c p (inl none) = refusal_with _ p none
reach_of_text s c p (inr of) = set_with s.dimensions (limits_in s) c.zone _ p of.holds.holds

-- ---- what must be found

abbrev Decided : Printed → Type 0
Decided p = (p.status ≡ status.Holds) ⊎ (p.status ≡ status.Fails)

by_found : (p : Printed) (s : Status) → p.status ≡ s → (s ≡ status.Holds) ⊎ (s ≡ status.Fails) → Decided p
by_found p s is (inl holds) = inl (is ∙ holds)
by_found p s is (inr fails) = inr (is ∙ fails)

zone_decides : (names : List (List ℕ)) (limits : Limits) (one : OneSet) (zone : Zone) (p : Printed) → IsSummarisable names limits (left_outside one zone) → IsZonePrinted names limits one zone p → Decided p
zone_decides names limits one zone p d (inl none) = absurd (summarisable_subjects_are_found names limits (left_outside one zone) p d none)
zone_decides names limits one zone p d (inr found) = by_found p _ found.printed.prints.1 (status_is_by found.printed.found.summary)

no_fault : (schema : Schema) (bytes : List ℕ) (zone : Zone) (p : Printed) → zone_from schema bytes ≡ Ok zone → IsZoneRefused schema bytes p → ⊥
no_fault schema bytes zone p stands refused = let first = refused.first in cc

same_zone : (schema : Schema) (bytes : List ℕ) (a b : Zone) → zone_from schema bytes ≡ Ok a → zone_from schema bytes ≡ Ok b → b ≡ a
same_zone schema bytes a b one other = cc

set_decides : (names : List (List ℕ)) (limits : Limits) (bytes : List ℕ) (one : OneSet) (p : Printed) → IsReachable names limits bytes one → IsReachOfSet names limits bytes one p → Decided p
set_decides names limits bytes one p d (inl refused) = absurd (no_fault one.schema bytes d.zone p d.stands refused)
set_decides names limits bytes one p d (inr of) =
    zone_decides names limits one d.zone p d.holds (subst (λ (zone : Zone). IsZonePrinted names limits one zone p) (same_zone one.schema bytes d.zone of.zone d.stands of.stands) of.holds)

pub reaches_decide : ReachesDecide
reaches_decide s c p d (inl (r, none, told)) = absurd (no_one_fails c.set c.schema (IsReachable s.dimensions (limits_in s) c.zone) d r none)
reaches_decide s c p d (inr of) =
    let same = of_same_set c.set c.schema _ _ d of in
    set_decides s.dimensions (limits_in s) c.zone (one_of d.named d.set) p d.holds.holds same.holds
