-- Where a set's tree is no under answers that are plain of a finding's requests, the set allows none of them.
use Rattle.std.proofs.Common.{◌≡◌, ◌↔◌, ◌++◌, ℕ, zero, suc, ◌<◌, Bool, true, false, List, [], ◌∷◌, Option, Some, None, length, inl, inr, refl, sym, ap, subst, arith}
use Rattle.std.specs.Prelude.{All, Contains, IsTrue, MatchBool, slice_get, unwrap_or}
use Rattle.std.proofs.lemmas.List.Elements.{All-contains, Contains-append_left, Contains-get_or, Contains-push, Contains-push_cases}
use Rattle.formula_tree.specs.Answers.{Answers, Completes, answer_of}
use Rattle.formula_tree.specs.Values.{value}
use Rattle.formula_tree.specs.declared.value.Three.TheVariants.{No}
use Rattle.formula_tree.proofs.Laws.{says-no}
use Rattle.policy_model.specs.declared.request.Request.{Request}
use Rattle.policy_model.specs.declared.schema.Schema.{Schema}
use Rattle.policy_model.specs.declared.test.Test.{Test}
use Rattle.policy_model.specs.Requests.{IsValid}
use Rattle.policy_model.specs.Tests.{TestHolds}
use Rattle.policy_compile.specs.declared.outcome.Query.{Query}
use Rattle.policy_compile.specs.Meaning.{AnswersAs}
use Rattle.policy_compile.specs.Queries.{asked_tree}
use Rattle.slot_theory.specs.Possible.{AnswersPath}
use Rattle.strata.specs.declared.stratum.Strata.{Strata}
use Rattle.strata.specs.declared.stratum.Stratum.{Stratum}
use Rattle.findings.specs.declared.known.KnownAnswers.{KnownAnswers}
use Rattle.findings.specs.declared.region.Region.{Region}
use Rattle.findings.specs.Findings.{IsFinding, IsIrreducible, LiesInFinding}
use Rattle.findings.specs.Nobody.{KeepInhabited, KeepsInhabited}
use Rattle.findings.specs.Queries.{AreMadeFor}
use Rattle.findings.specs.Steps.{MeetsFiner, predicate_number_at}
use Rattle.findings.specs.KnownAnswers.{AreOwnAnswers, AreInsideAnswers, ComesFromMet, ComesFromMissed, AreKnownAnswers, IsAnswerTable, IsMetTable}
use Rattle.findings.specs.RegionQueries.{AsksRegion, IsRegionQuery}
use Rattle.findings.specs.Regions.{LiesInRegion}
use Rattle.findings.specs.Screening.{HasPlainlyNobody, DropsPlainlyEmpty}
use Rattle.findings.proofs.Lessened.{asks-less}
use Rattle.findings.proofs.Looking.{some-answers}
use Rattle.findings.proofs.Lying.{finer-at, lies-at}
use Rattle.findings.proofs.Made.{made-steps}
use Rattle.findings.proofs.Orders.{lies-finer, under-finding, under-finer}
use Rattle.findings.proofs.Plans.{at-some}
use Rattle.findings.proofs.Stepping.{finding-long}

-- ---- answers of the finding's requests

module _ (schema : Schema) (tests : List Test) (ds : List Stratum) (known : KnownAnswers) (f : List ℕ) (is : IsFinding ds f) (r : Request) (valid : IsValid schema r) where
  came-met : IsAnswerTable schema true ds tests known.met → LiesInFinding r ds f → (n : ℕ) (b : Bool) → ComesFromMet known f n b → (t : Test) → slice_get tests n ≡ Some t → MatchBool b (TestHolds r t) (¬ TestHolds r t)
  came-met table lies n b from t there =
      let d = at-some ds from.dimension (omega (arith, from.inside, finding-long ds f is)) in
      table from.dimension d.0 d.1 (predicate_number_at f from.dimension) r valid (lies-at r ds f is lies from.dimension d.0 d.1) n b t from.has there

  came-missed : IsAnswerTable schema false ds tests known.missed → ¬ MeetsFiner r ds f → (n : ℕ) (b : Bool) → ComesFromMissed known ds f n b → (t : Test) → slice_get tests n ≡ Some t → MatchBool b (TestHolds r t) (¬ TestHolds r t)
  came-missed table none n b from t there =
      table from.dimension from.stratum from.at from.finer.lower r valid (λ meets. none (finer-at r ds f is from.dimension from.stratum from.at (from.finer.lower, from.finer.among, meets))) n b t from.finer.has there

  met-says : (path : Answers) → IsAnswerTable schema true ds tests known.met → AreInsideAnswers known f path → LiesInFinding r ds f → AnswersPath tests path r
  met-says path table are lies n b t answered there = came-met table lies n b (are n b answered) t there

  lying-says : (path : Answers) → IsAnswerTable schema true ds tests known.met → IsAnswerTable schema false ds tests known.missed → AreOwnAnswers known ds f path → LiesInFinding r ds f → ¬ MeetsFiner r ds f → AnswersPath tests path r
  lying-says path met missed are lies none n b t answered there = elim (are n b answered) [
    | inl from ↦ came-met met lies n b from t there
    | inr from ↦ came-missed missed none n b from t there
  ]

-- ---- a tree that is no under answers that a request gives

-- the path's answers, and others where it has none
abbrev completed : Answers → (ℕ → Bool) → ℕ → Bool
completed path answers n = unwrap_or (answer_of path n) (answers n)

completes : (path : Answers) (answers : ℕ → Bool) → Completes (completed path answers) path
completes path answers n b e = ap (λ (o : Option Bool). unwrap_or o (answers n)) e

known-as : (b : Bool) {P : Type 0} → MatchBool b P (¬ P) → (IsTrue b ↔ P)
known-as true h = (λ e. h, λ p. refl)
known-as false h = (λ e. absurd (cc), λ p. absurd (h p))

completed-as : (r : Request) (tests : List Test) (path : Answers) (answers : ℕ → Bool) → AnswersPath tests path r → AnswersAs answers r tests → AnswersAs (completed path answers) r tests
completed-as r tests path answers gives say n t at = by (answer_of path n) refl
  where
    by : (o : Option Bool) → answer_of path n ≡ o → (IsTrue (completed path answers n) ↔ TestHolds r t)
    by None e = subst (λ (o : Option Bool). IsTrue (unwrap_or o (answers n)) ↔ TestHolds r t) (sym e) (say n t at)
    by (Some b) e = subst (λ (o : Option Bool). IsTrue (unwrap_or o (answers n)) ↔ TestHolds r t) (sym e) (known-as b (gives n b t e at))

-- the request doesn't lie in the region
barred : (schema : Schema) (region : Region) (q : Query) (path : Answers) → IsRegionQuery schema region q → value path (asked_tree q) ≡ No →
    (r : Request) → IsValid schema r → AnswersPath q.tests path r → LiesInRegion schema region r → ⊥
barred schema region q path is no_ r valid gives allowed =
    some-answers r q.tests (λ answers say. (
    let total = completed path answers in
    let gave = completed-as r q.tests path answers gives say in
    let fails = says-no path (asked_tree q) total (completes path answers) no_ in
    let holds_ = (is.says r total valid gave).1 allowed in
    absurd (cc)))

pub plainly-nobody : (known : KnownAnswers) (f : List ℕ) (path : Answers) → AreInsideAnswers known f path → value path (asked_tree known.less.query) ≡ No → HasPlainlyNobody known f
plainly-nobody known f path are no_ schema region strata asks table is r valid allowed lies =
    let q = known.less.query in
    barred schema region q path asks.is no_ r valid (met-says schema q.tests strata.dimensions known f is r valid path table are lies) allowed

-- no request is the finding's own
pub plainly-reducible : (schema : Schema) (region : Region) (base : Query) (strata : Strata) (known : KnownAnswers) (f : List ℕ) (path : Answers) → AreMadeFor schema region base strata → AreKnownAnswers schema base strata known → IsFinding strata.dimensions f →
    AreOwnAnswers known strata.dimensions f path → value path (asked_tree known.less.query) ≡ No → ¬ IsIrreducible schema region strata.dimensions f
plainly-reducible schema region base strata known f path made says is are no_ irreducible =
    let ds = strata.dimensions in
    let q = known.less.query in
    let r = irreducible.0 in
    let own = irreducible.1 in
    let steps = made-steps schema region base strata made in
    let none : ¬ MeetsFiner r ds f = λ meets. (
    let lower = lies-finer schema r ds f own.lies meets in
    own.no_finer lower.finer (under-finding schema ds steps lower.finer f lower.under is) (under-finer schema ds steps lower.finer f lower.under) lower.lies) in
    barred schema region q path (asks-less schema region base strata known made says).is no_ r own.valid (lying-says schema q.tests ds known f is r own.valid path says.met says.missed are own.lies none) own.allowed

-- ---- which findings are kept

module _ (known : KnownAnswers) where
  pub plainly-all : (fs : List (List ℕ)) → DropsPlainlyEmpty known fs fs
  plainly-all fs = record { only = λ f h. h; others = λ f h. inl h }

  pub plainly-none : (fs kept : List (List ℕ)) → fs ≡ [] → kept ≡ [] → DropsPlainlyEmpty known fs kept
  plainly-none fs kept empty none = subst (λ (xs : List (List ℕ)). DropsPlainlyEmpty known xs kept) (sym empty) (subst (DropsPlainlyEmpty known []) (sym none) (plainly-all []))

  pub plainly-left : (fs all kept : List (List ℕ)) (f : List ℕ) → DropsPlainlyEmpty known fs kept → HasPlainlyNobody known f → all ≡ fs ++ f ∷ [] → DropsPlainlyEmpty known all kept
  plainly-left fs all kept f before nobody is = subst (λ (xs : List (List ℕ)). DropsPlainlyEmpty known xs kept) (sym is) (record {
    only = λ g h. Contains-append_left fs (f ∷ []) g (before.only g h);
    others = λ g h. elim (Contains-push_cases fs f g h) [
      | inl there ↦ before.others g there
      | inr same ↦ inr (subst (HasPlainlyNobody known) same nobody)
    ];
  })

  pub plainly-kept : (fs all old new : List (List ℕ)) (f : List ℕ) → DropsPlainlyEmpty known fs old → all ≡ fs ++ f ∷ [] → new ≡ old ++ f ∷ [] → DropsPlainlyEmpty known all new
  plainly-kept fs all old new f before is grows = subst (λ (xs : List (List ℕ)). DropsPlainlyEmpty known xs new) (sym is) (subst (DropsPlainlyEmpty known (fs ++ f ∷ [])) (sym grows) (record {
    only = λ g h. elim (Contains-push_cases old f g h) [
      | inl there ↦ Contains-append_left fs (f ∷ []) g (before.only g there)
      | inr same ↦ subst (Contains (fs ++ f ∷ [])) same (Contains-push fs f)
    ];
    others = λ g h. elim (Contains-push_cases fs f g h) [
      | inl there ↦ elim (before.others g there) [ inl kept ↦ inl (Contains-append_left old (f ∷ []) g kept) | inr nobody ↦ inr nobody ]
      | inr same ↦ inl (subst (Contains (old ++ f ∷ [])) same (Contains-push old f))
    ];
  }))

-- those that are kept of those that were kept
pub both-kept : (schema : Schema) (region : Region) (strata : Strata) (known : KnownAnswers) (fs few kept : List (List ℕ)) → AsksRegion schema region known.less.query strata → IsMetTable schema strata known → All (IsFinding strata.dimensions) fs →
    DropsPlainlyEmpty known fs few → KeepInhabited schema known.less.query strata few kept → KeepsInhabited schema region strata.dimensions fs kept
both-kept schema region strata known fs few kept asks table are plainly inhabited =
    let more = inhabited region asks in
    record {
      only = λ f h. plainly.only f (more.only f h);
      others = λ f h. elim (plainly.others f h) [
        | inl there ↦ more.others f there
        | inr nobody ↦ inr (nobody schema region strata asks table (All-contains (IsFinding strata.dimensions) fs f are h))
      ];
    }

-- findings that are kept are findings
pub kept-findings : (ds : List Stratum) (known : KnownAnswers) (fs few : List (List ℕ)) → All (IsFinding ds) fs → DropsPlainlyEmpty known fs few → All (IsFinding ds) few
kept-findings ds known fs few are plainly k d within =
    let there = Contains-get_or few k d within in
    All-contains (IsFinding ds) fs _ are (plainly.only _ there)
