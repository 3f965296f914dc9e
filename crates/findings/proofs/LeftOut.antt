-- The plan of a cover holds of a valid request exactly where the request is left out.
use Rattle.std.proofs.Common.{◌↔◌, ℕ, Bool, List, [], ◌∷◌, map, inl, inr}
use Rattle.std.specs.Prelude.{All, Any, IsTrue}
use Rattle.std.proofs.lemmas.List.Elements.{All-head, All-tail}
use Rattle.formula_tree.specs.Trees.{tree_of}
use Rattle.formula_tree.specs.Values.{holds}
use Rattle.policy_model.specs.declared.request.Request.{Request}
use Rattle.policy_model.specs.declared.schema.Schema.{Schema}
use Rattle.policy_model.specs.Requests.{IsValid}
use Rattle.policy_model.proofs.Laws.{Any-decided, Any-here, Any-later, Any-nil, Any-split}
use Rattle.policy_compile.specs.declared.outcome.Query.{Query}
use Rattle.policy_compile.specs.Meaning.{AnswersAs}
use Rattle.policy_compile.specs.Plans.{PlanHolds, SomeHolds, of_plans}
use Rattle.policy_compile.specs.Queries.{asked_tree}
use Rattle.policy_compile.proofs.Laws.{below-numbered, holds-numbered}
use Rattle.refute_check.specs.Laws.{ClosedQueriesAreNo}
use Rattle.refute_check.specs.Proofs.{proof_of}
use Rattle.strata.specs.declared.stratum.Stratum.{Stratum}
use Rattle.findings.specs.declared.region.Region.{Region}
use Rattle.findings.specs.CoverLaws.{ClosedCoversLeaveNobodyOut}
use Rattle.findings.specs.CoverQueries.{IsCoverQuery, IsLeftOutByFindings, cover_plan, lies_plan}
use Rattle.findings.specs.Findings.{IsFinding, LiesInFinding}
use Rattle.findings.specs.Regions.{RegionFits, region_plan}
use Rattle.findings.proofs.Deciding.{lies-decided}
use Rattle.findings.proofs.Looking.{some-answers}
use Rattle.findings.proofs.Made.{made-suits}
use Rattle.findings.proofs.Owning.{AllSuit, own-holds}
use Rattle.findings.proofs.Regions.{region-holds}

-- one of the findings' plans holds where the request lies in one of them
pub some-lie-holds : (schema : Schema) (r : Request) (ds : List Stratum) → AllSuit schema ds → (fs : List (List ℕ)) → All (IsFinding ds) fs → (SomeHolds r (of_plans (map (lies_plan ds) fs)) ↔ Any (LiesInFinding r ds) fs)
some-lie-holds schema r ds suit [] are = (λ h. absurd h, λ h. absurd (Any-nil (LiesInFinding r ds) h))
some-lie-holds schema r ds suit (f ∷ fs) are =
    let first = own-holds schema r ds suit f (All-head (IsFinding ds) f fs are) in
    let rest = some-lie-holds schema r ds suit fs (All-tail (IsFinding ds) f fs are) in (
      λ h. elim h [ inl here ↦ Any-here (LiesInFinding r ds) f fs (first.0 here) | inr later ↦ Any-later (LiesInFinding r ds) f fs (rest.0 later) ],
      λ h. elim (Any-split (LiesInFinding r ds) f fs h) [ inl here ↦ inl (first.1 here) | inr later ↦ inr (rest.1 later) ],
    )

cover-holds : (schema : Schema) (region : Region) (ds : List Stratum) → RegionFits schema region → AllSuit schema ds → (fs : List (List ℕ)) → All (IsFinding ds) fs → (r : Request) → IsValid schema r →
    (PlanHolds r (cover_plan (region_plan schema region) ds fs) ↔ IsLeftOutByFindings schema region ds fs r)
cover-holds schema region ds fits suit fs are r valid =
    let allowed = region-holds schema r region fits valid in
    let some = some-lie-holds schema r ds suit fs are in (
      λ h. record { allowed = allowed.0 h.0; outside = λ lies. h.1.0 (some.1 lies) },
      λ h. (allowed.1 h.allowed, (λ lies. h.outside (some.0 lies), tt)),
    )

-- so its tree holds under the request's answers exactly there
pub left-out-holds : (schema : Schema) (region : Region) (ds : List Stratum) → RegionFits schema region → AllSuit schema ds → (fs : List (List ℕ)) → All (IsFinding ds) fs → (q : Query) → IsCoverQuery (region_plan schema region) ds fs q →
    (r : Request) (answers : ℕ → Bool) → IsValid schema r → AnswersAs answers r q.tests → (IsTrue (holds answers (tree_of q.formula.value)) ↔ IsLeftOutByFindings schema region ds fs r)
left-out-holds schema region ds fits suit fs are q is r answers valid say =
    let numbered = holds-numbered answers r q.tests say (cover_plan (region_plan schema region) ds fs) (tree_of q.formula.value) is.tree in
    let own = cover-holds schema region ds fits suit fs are r valid in
    (λ h. own.0 (numbered.0 h), λ h. numbered.1 (own.1 h))

-- where the query of a cover is refuted, nobody is left out
pub nobody-left : ClosedQueriesAreNo → ClosedCoversLeaveNobodyOut
nobody-left closed schema region strata fs has r valid allowed = elim (Any-decided (LiesInFinding r strata.dimensions) (lies-decided r strata.dimensions) fs) [
  | inl some ↦ some
  | inr none ↦ absurd (
      some-answers r has.query.tests (λ answers says. (
      let suits = made-suits schema region has.base strata has.made in
      let holds_then = left-out-holds schema region strata.dimensions has.made.fits suits fs has.findings has.query has.is r answers valid says in
      let range = below-numbered has.query.tests (cover_plan (region_plan schema region) strata.dimensions fs) (asked_tree has.query) has.is.tree in
      closed schema has.query.tests (asked_tree has.query) (proof_of has.refutation) range has.closes r valid (answers, says, holds_then.1 (record { allowed = allowed; outside = none })))))
]
