-- What is printed of a region within its limits, and which statuses it has.
use Rattle.std.proofs.Common.{◌≡◌, ◌⊎◌, List, [], ◌∷◌, ◌++◌, ℕ, slice_get, All, Some, arith, inl, inr, refl, subst}
use Rattle.std.proofs.lemmas.List.Elements.{All-contains, Contains-append_right}
use Rattle.std.specs.Prelude.{Contains, true}
use Rattle.std.specs.Str.{IsUtf8}
use Rattle.command_words.specs.Asked.{Summarising, are_dimensions}
use Rattle.policy_compile.specs.declared.outcome.Query.{Query}
use Rattle.policy_model.specs.declared.request.Request.{Request}
use Rattle.policy_model.specs.declared.schema.Schema.{Schema}
use Rattle.policy_model.specs.declared.test.Slot.{Slot}
use Rattle.policy_model.specs.Soundness.{SchemaIsSound}
use Rattle.policy_model.proofs.Laws.{slice_get-at}
use Rattle.strata.specs.Causes.{AreFew, IsFirstTooMany, NamesTooMany}
use Rattle.summary_search.specs.Outcomes.{AreAskable, IsSummaryOutcome}
use Rattle.summary_search.specs.declared.outcome.Limits.{Limits}
use Rattle.summary_search.specs.declared.outcome.Outcome.{Outcome}
use Rattle.summary_search.specs.declared.outcome.Outcome.TheVariants as outcome
use Rattle.run_inputs.specs.declared.printed.Printed.{Printed}
use Rattle.run_inputs.specs.declared.status.Status.TheVariants as status
use Rattle.run_inputs.specs.Printing.{IsOfText}
use Rattle.run_inputs.specs.declared.refusal.Refusal.{Refusal}
use Rattle.run_inputs.specs.declared.refusal.Refusal.TheVariants as refusal
use Rattle.run_inputs.specs.OneSets.{one_of, SetContents}
use Rattle.run_inputs.proofs.Laws.{no_one_fails, of_same_set, refusal_with, with_status}
use Rattle.summary_answers.specs.declared.answer.Found.{Found}
use Rattle.summary_answers.specs.declared.subject.Subject.{Subject}
use Rattle.summary_answers.specs.Complete.{FitsLimits, IsSummarisable, SummariesDecide, SummarisableSubjectsAreFound}
use Rattle.summary_answers.specs.Dimensions.{IsFirstUnknown, NameSlots, NamesSlot, dimension_slots}
use Rattle.summary_answers.specs.Found.{HaveFindings, IsFoundOf, IsNotFound, IsNotSummarised, PrintsUnfound}
use Rattle.run_inputs.specs.PastLimits.{IsPlanPastLimit}
use Rattle.summary_answers.specs.Printed.{HasStatusOf, IsSubjectPrinted, IsSummaryPrinted, StatusRule, always_holds, limits_in, status_by}
use Rattle.summary_answers.specs.Subjects.{subject_of_set, subject_plan}
use Rattle.summary_answers.proofs.Naming.{names-askable}
use Rattle.summary_answers.proofs.Summarising.{summary-findings}

-- ---- what is asked and what is found

-- a summary by names of dimensions that are known may be asked for
pub names_are_askable : (names : List (List ℕ)) → are_dimensions names ≡ true → (schema : Schema) → SchemaIsSound schema → NameSlots schema names → All IsUtf8 names → AreAskable schema (dimension_slots names)
names_are_askable names dimensions schema sound known texts = names-askable names dimensions schema sound known texts

pub found_have_findings : (names : List (List ℕ)) (limits : Limits) (subject : Subject) (found : Found) → IsFoundOf names limits subject found → HaveFindings found.strata.dimensions found.summary
found_have_findings names limits subject found is = summary-findings subject.schema subject.region found.strata.dimensions found.summary is.summary

-- ---- statuses

unfound_with : (names : List (List ℕ)) (limits : Limits) (o : Outcome) (p : Printed) → PrintsUnfound names limits o p → IsOfText p.status
unfound_with names limits (outcome.Found strata summary) p told = absurd told
unfound_with names limits (outcome.TooManyPredicates d) p told = with_status p status.Refused tt told.1
unfound_with names limits (outcome.Wide s texts) p told = with_status p status.Undecided tt told.1
unfound_with names limits outcome.OutOfFindings p told = with_status p status.Undecided tt told.1
unfound_with names limits (outcome.OutOfSplits strata f) p told = with_status p status.Undecided tt told.1
unfound_with names limits (outcome.OutOfStates strata f w) p told = with_status p status.Undecided tt told.1

not_summarised_with : (names : List (List ℕ)) (limits : Limits) (subject : Subject) (p : Printed) → IsNotSummarised names limits subject p → IsOfText p.status
not_summarised_with names limits subject p (inl past) = refusal_with _ p past
not_summarised_with names limits subject p (inr un) = unfound_with names limits un.came p un.prints

pub not_found_of_text : (names : List (List ℕ)) (limits : Limits) (subject : Subject) (p : Printed) → IsNotFound names limits subject p → IsOfText p.status
not_found_of_text names limits subject p (inl unknown) = with_status p status.Refused tt unknown.prints.1
not_found_of_text names limits subject p (inr known) = not_summarised_with names limits subject p known.1

-- the statuses of findings where there should be none
pub status_is_by : (summary : List (List ℕ × Request)) → (status_by summary ≡ status.Holds) ⊎ (status_by summary ≡ status.Fails)
status_is_by [] = inl refl
status_is_by (x ∷ xs) = inr refl

pub status_by_of_text : (summary : List (List ℕ × Request)) → IsOfText (status_by summary)
status_by_of_text [] = tt
status_by_of_text (x ∷ xs) = tt

pub printed_of_text : (status_of : StatusRule) → ((summary : List (List ℕ × Request)) → IsOfText (status_of summary)) → (names : List (List ℕ)) (limits : Limits) (subject : Subject) (p : Printed) → IsSubjectPrinted status_of names limits subject p → IsOfText p.status
printed_of_text status_of texts names limits subject p (inl none) = not_found_of_text names limits subject p none
printed_of_text status_of texts names limits subject p (inr found) = with_status p (status_of found.found.summary) (texts found.found.summary) found.prints.1

pub summary_of_text : (s : Summarising) (c : SetContents) (p : Printed) → IsSummaryPrinted s c p → IsOfText p.status
summary_of_text s c p (inl none) = refusal_with _ p none
summary_of_text s c p (inr of) = printed_of_text always_holds (λ summary. tt) s.dimensions (limits_in s) _ p of.holds.holds

-- ---- summaries that must come

-- an item at the front of a list, and what holds of an item that a list has
first_in : {X : Type 0} (x : X) (xs : List X) → Contains (x ∷ xs) x
first_in x xs = (0, omega arith, refl)

all_at : {X : Type 0} (P : X → Type 0) (xs : List X) (i : ℕ) (v : X) → All P xs → slice_get xs i ≡ Some v → P v
all_at P xs i v all e = let at = slice_get-at xs i v v e in subst P at.1 (all i v at.0)

-- a name that names no dimension isn't among names that do
pub unknown_fails : (schema : Schema) (names : List (List ℕ)) (element : List ℕ) → NameSlots schema names → IsFirstUnknown schema names element → ⊥
unknown_fails schema names element known first =
    let all : All (NamesSlot schema) (first.before ++ first.name ∷ first.behind) = subst (λ (ws : List (List ℕ)). All (NamesSlot schema) ws) first.is known in
    first.unknown (All-contains (NamesSlot schema) (first.before ++ first.name ∷ first.behind) first.name all (Contains-append_right first.before (first.name ∷ first.behind) first.name (first_in first.name first.behind)))

-- no dimension of which too many predicates are named is among those of which few are
pub many_fails : (most : ℕ) (q : Query) (slots : List Slot) (d : ℕ) → AreFew most q.tests slots → IsFirstTooMany most q.tests slots d → ⊥
many_fails most q slots d few first =
    all_at (λ (s : Slot). ¬ NamesTooMany most q.tests s) slots d first.slot few first.at first.many

module _ (names : List (List ℕ)) (limits : Limits) (subject : Subject) (p : Printed) where
  -- within the limits the summary comes to no other outcome
  unfound_fails : (q : Query) → FitsLimits names limits subject q → (o : Outcome) → IsSummaryOutcome subject.schema subject.region q (dimension_slots names) limits o → PrintsUnfound names limits o p → ⊥
  unfound_fails q fits (outcome.Found strata summary) comes told = told
  unfound_fails q fits (outcome.TooManyPredicates d) comes told = many_fails limits.predicates q (dimension_slots names) d fits.few comes
  unfound_fails q fits (outcome.Wide s texts) comes told = fits.narrow s texts comes.0 comes.2
  unfound_fails q fits outcome.OutOfFindings comes told = (fits.strata comes.strata comes.are).findings comes.holds
  unfound_fails q fits (outcome.OutOfSplits strata f) comes told = (fits.strata strata comes.0).splits f comes.1
  unfound_fails q fits (outcome.OutOfStates strata f w) comes told = (fits.strata strata comes.0).states f w comes.1

  not_past : IsSummarisable names limits subject → (r : Refusal) → IsPlanPastLimit (subject_plan subject) r → ⊥
  not_past d refusal.TooManyTests v = d.tests v
  not_past d refusal.TooManyPieces v = d.pieces v
  not_past d (refusal.BadSchema fault) v = v
  not_past d (refusal.BadSet file fault) v = v
  not_past d (refusal.BadCondition file fault) v = v

  not_summarised_fails : IsSummarisable names limits subject → IsNotSummarised names limits subject p → ⊥
  not_summarised_fails d (inl (r, past, told)) = not_past d r past
  not_summarised_fails d (inr un) = unfound_fails un.query (d.fits un.query un.is.is) un.came un.is.comes un.prints

  not_found_fails : IsSummarisable names limits subject → IsNotFound names limits subject p → ⊥
  not_found_fails d (inl unknown) = unknown_fails subject.schema names unknown.element d.known unknown.first
  not_found_fails d (inr known) = not_summarised_fails d known.1

pub summarisable_subjects_are_found : SummarisableSubjectsAreFound
summarisable_subjects_are_found names limits subject p d none = not_found_fails names limits subject p d none

pub subjects_decide : (status_of : StatusRule) (names : List (List ℕ)) (limits : Limits) (subject : Subject) (p : Printed) → IsSummarisable names limits subject → IsSubjectPrinted status_of names limits subject p → HasStatusOf status_of p
subjects_decide status_of names limits subject p d (inl none) = absurd (not_found_fails names limits subject p d none)
subjects_decide status_of names limits subject p d (inr found) = (found.found.summary, found.prints.1)

pub summaries_decide : SummariesDecide
summaries_decide s c p d (inl (r, none, told)) = absurd (no_one_fails c.set c.schema (λ one. IsSummarisable s.dimensions (limits_in s) (subject_of_set one)) d r none)
summaries_decide s c p d (inr of) =
    let same = of_same_set c.set c.schema _ _ d of in
    (subjects_decide always_holds s.dimensions (limits_in s) (subject_of_set (one_of d.named d.set)) p d.holds.holds same.holds).1
