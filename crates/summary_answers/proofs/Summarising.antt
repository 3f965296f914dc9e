-- What a summary comes to has texts, and is found where it is a summary.
use Rattle.std.proofs.Common.{◌<◌, ◌^◌, ℕ, List, length, map, All, subst, sym}
use Rattle.std.proofs.lemmas.List.{get_or-map, length-map}
use Rattle.std.proofs.lemmas.Option.{slice_get_within}
use Rattle.policy_model.specs.declared.request.Request.{Request}
use Rattle.policy_compile.specs.declared.outcome.Query.{Query}
use Rattle.findings.specs.declared.region.Region.{Region}
use Rattle.findings.specs.Findings.{IsFinding}
use Rattle.findings.specs.Queries.{AreMadeFor}
use Rattle.findings.specs.Summaries.{IsSummary, findings_of}
use Rattle.policy_model.specs.declared.schema.Schema.{Schema}
use Rattle.policy_model.specs.Requests.{HasValidRequest}
use Rattle.request_json.specs.Laws.{WrittenRequestsAreReadAgain}
use Rattle.strata.specs.declared.stratum.Stratum.{Stratum}
use Rattle.summary_search.specs.Outcomes.{AreAskable, AreStrataWithin, IsSummaryOutcome}
use Rattle.summary_search.specs.declared.outcome.Limits.{Limits}
use Rattle.summary_search.specs.declared.outcome.Outcome.{Outcome}
use Rattle.summary_search.specs.declared.outcome.Outcome.TheVariants as outcome
use Rattle.summary_answers.specs.declared.answer.Found.{Found}
use Rattle.summary_answers.specs.declared.subject.Subject.{Subject}
use Rattle.summary_answers.specs.Dimensions.{NameSlots, dimension_slot, dimension_slots}
use Rattle.summary_answers.specs.Found.{HasTexts, HaveFindings, IsFoundIn, IsFoundOf, IsSubjectOutcome}
use Rattle.summary_answers.specs.Subjects.{SubjectFits}

-- what holds of the images of a list's items
all-of-map : {X Y : Type 0} (P : Y → Type 0) (f : X → Y) (xs : List X) → All P (map f xs) → All (λ x. P (f x)) xs
all-of-map P f xs all k d l = subst P (get_or-map f xs k d (f d) l) (all k (f d) (subst (λ (n : ℕ). k < n) (sym (length-map xs f)) l))

-- the findings of a summary are findings
pub summary-findings : (schema : Schema) (region : Region) (ds : List Stratum) (summary : List (List ℕ × Request)) → IsSummary schema region ds summary → HaveFindings ds summary
summary-findings schema region ds summary is =
    let finding : All (IsFinding ds) (findings_of summary) = λ k d l. (is.maximal k d l).finding in
    all-of-map (IsFinding ds) (λ (p : List ℕ × Request). p.0) summary finding

texts-in : (names : List (List ℕ)) (limits : Limits) (subject : Subject) (q : Query) (o : Outcome) → IsSummaryOutcome subject.schema subject.region q (dimension_slots names) limits o → HasTexts names o
texts-in names limits subject q (outcome.Found strata summary) comes = summary-findings subject.schema subject.region strata.dimensions summary comes.1
texts-in names limits subject q (outcome.TooManyPredicates d) comes =
    let within : d < length (dimension_slots names) = slice_get_within (dimension_slots names) d comes.slot comes.at in
    subst (λ (n : ℕ). d < n) (length-map names dimension_slot) within
texts-in names limits subject q (outcome.Wide s texts) comes = tt
texts-in names limits subject q outcome.OutOfFindings comes = tt
texts-in names limits subject q (outcome.OutOfSplits strata f) comes = comes.1.visited.finding
texts-in names limits subject q (outcome.OutOfStates strata f w) comes = comes.1.visited.finding

-- what a summary comes to has texts
pub texts-of : (names : List (List ℕ)) (limits : Limits) (subject : Subject) (q : Query) (o : Outcome) → IsSubjectOutcome (dimension_slots names) limits subject q o → HasTexts names o
texts-of names limits subject q o is = texts-in names limits subject q o is.comes

-- a summary that it comes to is found, where requests under the schema may have values of the dimensions
pub found-of : WrittenRequestsAreReadAgain → (names : List (List ℕ)) (limits : Limits) (subject : Subject) (q : Query) (o : Outcome) → IsSubjectOutcome (dimension_slots names) limits subject q o → limits.predicates < 2 ^ 32 → NameSlots subject.schema names → SubjectFits subject → HasValidRequest subject.schema → AreAskable subject.schema (dimension_slots names) → (f : Found) → IsFoundIn q o f → IsFoundOf names limits subject f
found-of written names limits subject q o is small known fits some askable f finds =
    let comes : IsSummaryOutcome subject.schema subject.region q (dimension_slots names) limits (outcome.Found f.strata f.summary) =
    subst (λ (x : Outcome). IsSummaryOutcome subject.schema subject.region q (dimension_slots names) limits x) finds.is is.comes in
    record {
      known = known;
      made = subst (λ (r : Query). AreMadeFor subject.schema subject.region r f.strata) (sym finds.asked) (record {
        sound = fits.sound;
        fits = fits.fits;
        has_request = some;
        query = is.is;
        slots = dimension_slots names;
        differ = askable.differ;
        known = askable.known;
        most = limits.predicates;
        few = small;
        named = comes.0.few;
        are = comes.0.are;
      });
      strata = subst (λ (r : Query). AreStrataWithin limits.predicates subject.schema r (dimension_slots names) f.strata) (sym finds.asked) comes.0;
      summary = comes.1;
      few = comes.2;
      again = λ k d l. written subject.schema _ (finds.kept k d l) (comes.1.own k d l).valid;
    }
