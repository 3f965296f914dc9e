-- The strata of a region are made, or why not.
use Rattle.std.proofs.Common.{◌<◌, ◌≤◌, ◌^◌, ℕ, List, [], ◌∷◌, length, map, All, Ok, Err, sym, subst, arith, inl, inr}
use Rattle.std.proofs.lemmas.Bool.{cases_lt}
use Rattle.std.proofs.lemmas.List.{length-map}
use Rattle.std.proofs.lemmas.List.Elements.{All-nil, All-cons, All-head, All-tail}
use Rattle.std.proofs.lemmas.Option.{slice_get_within}
use Rattle.policy_compile.specs.declared.outcome.Query.{Query}
use Rattle.policy_compile.specs.Queries.{IsQuery}
use Rattle.policy_model.specs.declared.schema.Schema.{Schema}
use Rattle.policy_model.specs.declared.test.Slot.{Slot}
use Rattle.policy_model.specs.declared.test.Test.{Test}
use Rattle.strata.specs.declared.outcome.StrataFault.{StrataFault}
use Rattle.strata.specs.declared.outcome.StrataFault.TheVariants as cause
use Rattle.strata.specs.declared.predicate.Predicate.{Predicate}
use Rattle.strata.specs.declared.stratum.Strata.{Strata}
use Rattle.strata.specs.declared.stratum.Stratum.{Stratum}
use Rattle.strata.specs.Below.{Keeps, keeps_none, keeps_it, drops_it}
use Rattle.strata.specs.Causes.{AreFew, AreStrataOf, NamesTooMany}
use Rattle.strata.specs.Strata.{IsStratum}
use Rattle.summary_search.specs.Outcomes.{AreAskable, AreStrataWithin}
use Rattle.summary_search.specs.MadeStrata.{StrataAreMade}
use Rattle.summary_answers.specs.declared.subject.Subject.{Subject}
use Rattle.summary_answers.specs.Subjects.{SubjectFits, subject_plan}
use Rattle.summary_answers.specs.Dimensions.{NameSlots, dimension_slot, dimension_slots}
use Rattle.certified_summaries.specs.Made.{HasDimension, IsMadeOf}
use Rattle.certified_summaries.specs.Reading.{IsNumberable}

-- ---- strata

-- a dimension that is told is one of those that are named
pub has-dimension : (names : List (List ℕ)) (most : ℕ) (schema : Schema) (states : ℕ) (q : Query) (fault : StrataFault) → AreStrataOf most schema states q (dimension_slots names) (Err fault) → HasDimension names fault
has-dimension names most schema states q (cause.TooManyPredicates d) is =
    let within : d < length (dimension_slots names) = slice_get_within (dimension_slots names) d is.slot is.at in
    subst (λ (n : ℕ). d < n) (length-map names dimension_slot) within
has-dimension names most schema states q (cause.Wide s texts) is = tt
has-dimension names most schema states q cause.NoMemory is = tt

pub made-of : StrataAreMade → (names : List (List ℕ)) (most : ℕ) (subject : Subject) (states : ℕ) (q : Query) (strata : Strata) → most < 2 ^ 32 → NameSlots subject.schema names → SubjectFits subject → AreAskable subject.schema (dimension_slots names) → IsQuery (subject_plan subject) q →
    AreStrataOf most subject.schema states q (dimension_slots names) (Ok strata) → IsMadeOf names most subject q strata
made-of law names most subject states q strata small known fits askable is are =
    let within : AreStrataWithin most subject.schema q (dimension_slots names) strata = record { few = are.1; are = are.0 } in
    record {
      known = known;
      made = law most subject.schema subject.region q (dimension_slots names) strata small askable (record { fits = fits.fits; is = is }) within;
      within = within;
    }

-- ---- 32 bits number the predicates of a dimension

kept-few : (schema : Schema) (s : Slot) (earlier names kept : List Predicate) → Keeps schema s earlier names kept → length kept ≤ length names
kept-few schema s earlier [] kept keeps_none = omega arith
kept-few schema s earlier (p ∷ names) (q ∷ kept) (keeps_it is more) = omega (arith, kept-few schema s _ names kept more)
kept-few schema s earlier (p ∷ names) kept (drops_it is more) = omega (arith, kept-few schema s _ names kept more)

stratum-few : (most : ℕ) → most < 2 ^ 32 → (schema : Schema) (tests : List Test) (d : Stratum) → IsStratum schema tests d → ¬ NamesTooMany most tests d.slot → IsNumberable d.predicates
stratum-few most small schema tests d is few =
    let kept = kept-few schema d.slot [] is.predicates.names d.predicates is.predicates.kept in
    elim (cases_lt most (length is.predicates.names)) [
      | inl many ↦ absurd (few (record { names = is.predicates.names; named = is.predicates.named; many = many }))
      | inr within ↦ omega (arith, kept, within, small)
    ]

strata-few : (most : ℕ) → most < 2 ^ 32 → (schema : Schema) (tests : List Test) (ds : List Stratum) → All (IsStratum schema tests) ds → AreFew most tests (map (λ x. x.slot) ds) → All (λ d. IsNumberable d.predicates) ds
strata-few most small schema tests [] each few = All-nil (λ d. IsNumberable d.predicates)
strata-few most small schema tests (d ∷ ds) each few =
    let F : Slot → Type 0 = λ s. ¬ NamesTooMany most tests s in
    All-cons (λ x. IsNumberable x.predicates) d ds
    (stratum-few most small schema tests d (All-head (IsStratum schema tests) d ds each) (All-head F d.slot (map (λ x. x.slot) ds) few))
    (strata-few most small schema tests ds (All-tail (IsStratum schema tests) d ds each) (All-tail F d.slot (map (λ x. x.slot) ds) few))

pub made-few : (names : List (List ℕ)) (most : ℕ) (subject : Subject) (q : Query) (strata : Strata) → most < 2 ^ 32 → IsMadeOf names most subject q strata → All (λ d. IsNumberable d.predicates) strata.dimensions
made-few names most subject q strata small is =
    let are = is.within.are in
    strata-few most small subject.schema q.tests strata.dimensions are.each (subst (AreFew most q.tests) (sym are.on) is.within.few)
