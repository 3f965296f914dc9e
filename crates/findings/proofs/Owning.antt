-- The plan of a finding's query holds of a valid request exactly where the request is the finding's own.
use Rattle.std.proofs.Common.{◌⊎◌, ◌↔◌, ℕ, Bool, List, [], ◌∷◌, ◌++◌, map, inl, inr, refl, sym, subst, arith}
use Rattle.std.specs.Prelude.{IsTrue}
use Rattle.std.proofs.lemmas.List.Elements.{Contains-append_cases, Contains-append_right, Contains-push_cases}
use Rattle.formula_tree.specs.Trees.{tree_of}
use Rattle.formula_tree.specs.Values.{holds}
use Rattle.policy_model.specs.declared.request.Request.{Request}
use Rattle.policy_model.specs.declared.schema.Schema.{Schema}
use Rattle.policy_model.specs.declared.test.Slot.{Slot}
use Rattle.policy_model.specs.declared.test.Slot.TheVariants as slot
use Rattle.policy_model.specs.Requests.{IsValid}
use Rattle.policy_compile.specs.declared.outcome.Query.{Query}
use Rattle.policy_compile.specs.Meaning.{AnswersAs}
use Rattle.policy_compile.specs.Plans.{EachHolds, Plan, PlanHolds, SomeHolds, not, of_plans, one_of}
use Rattle.policy_compile.proofs.Laws.{holds-numbered}
use Rattle.strata.specs.declared.predicate.Predicate.{Predicate}
use Rattle.strata.specs.declared.predicate.Predicate.TheVariants.{Every, Principal, Word, Meets}
use Rattle.strata.specs.declared.stratum.Stratum.{Stratum}
use Rattle.strata.specs.Covers.{predicate_at}
use Rattle.strata.specs.Predicates.{MeetsPredicate, SuitsSlot, test_of}
use Rattle.findings.specs.declared.region.Region.{Region}
use Rattle.findings.specs.Asking.{lying_plan}
use Rattle.findings.specs.Findings.{IsFinding, IsOwn, LiesInFinding}
use Rattle.findings.specs.Queries.{IsFindingQuery, finding_plan, finer_plans, number_plan, numbers_below, own_plans, plan_or_yes}
use Rattle.findings.specs.Regions.{LiesInRegion, RegionFits, region_plan}
use Rattle.findings.specs.Steps.{MeetsFiner, MeetsOneOf}
use Rattle.findings.proofs.Orders.{AllHaveSteps, lies-finer, meets-finer, under-finding, under-finer}
use Rattle.findings.proofs.Regions.{region-holds}

-- each predicate of each dimension suits its slot
abbrev pub AllSuit : Schema → List Stratum → Type 0
AllSuit schema [] = Unit {0}
AllSuit schema (d ∷ ds) = ((n : ℕ) → SuitsSlot schema d.slot (predicate_at d.predicates n)) × AllSuit schema ds

-- the plan of a predicate that suits its slot holds where the request meets the predicate
predicate-holds : (schema : Schema) (r : Request) (s : Slot) (p : Predicate) → SuitsSlot schema s p → (PlanHolds r (plan_or_yes (test_of s p)) ↔ MeetsPredicate s p r)
predicate-holds schema r slot.Principal Every suits = (λ h. tt, λ h. tt)
predicate-holds schema r slot.Action Every suits = (λ h. tt, λ h. tt)
predicate-holds schema r slot.Resource Every suits = (λ h. tt, λ h. tt)
predicate-holds schema r (slot.Key key) Every suits = (λ h. tt, λ h. tt)
predicate-holds schema r slot.Principal (Principal entry) suits = (λ h. h, λ h. h)
predicate-holds schema r slot.Action (Principal entry) suits = absurd suits
predicate-holds schema r slot.Resource (Principal entry) suits = absurd suits
predicate-holds schema r (slot.Key key) (Principal entry) suits = absurd suits
predicate-holds schema r slot.Principal (Word pattern) suits = absurd suits
predicate-holds schema r slot.Action (Word pattern) suits = (λ h. h, λ h. h)
predicate-holds schema r slot.Resource (Word pattern) suits = (λ h. h, λ h. h)
predicate-holds schema r (slot.Key key) (Word pattern) suits = absurd suits
predicate-holds schema r slot.Principal (Meets c) suits = absurd suits
predicate-holds schema r slot.Action (Meets c) suits = absurd suits
predicate-holds schema r slot.Resource (Meets c) suits = absurd suits
predicate-holds schema r (slot.Key key) (Meets c) suits = (λ h. h, λ h. h)

-- ---- plans one after another

each-append : (r : Request) (ps qs : List Plan) → (EachHolds r (of_plans (ps ++ qs)) ↔ (EachHolds r (of_plans ps) × EachHolds r (of_plans qs)))
each-append r [] qs = (λ h. (tt, h), λ h. h.1)
each-append r (p ∷ ps) qs = (
  λ h. let rest = (each-append r ps qs).0 h.1 in ((h.0, rest.0), rest.1),
  λ h. (h.0.0, (each-append r ps qs).1 (h.0.1, h.1)),
)

some-append : (r : Request) (ps qs : List Plan) → (SomeHolds r (of_plans (ps ++ qs)) ↔ (SomeHolds r (of_plans ps) ⊎ SomeHolds r (of_plans qs)))
some-append r [] qs = (λ h. inr h, λ h. elim h [ inl x ↦ absurd x | inr y ↦ y ])
some-append r (p ∷ ps) qs = (
  λ h. elim h [ inl x ↦ inl (inl x) | inr y ↦ elim ((some-append r ps qs).0 y) [ inl a ↦ inl (inr a) | inr b ↦ inr b ] ],
  λ h. elim h [ inl x ↦ elim x [ inl a ↦ inl a | inr b ↦ inr ((some-append r ps qs).1 (inl b)) ] | inr y ↦ inr ((some-append r ps qs).1 (inr y)) ],
)

-- ---- the parts of the plan

pub own-holds : (schema : Schema) (r : Request) (ds : List Stratum) → AllSuit schema ds → (f : List ℕ) → IsFinding ds f → (EachHolds r (of_plans (own_plans ds f)) ↔ LiesInFinding r ds f)
own-holds schema r [] suit f is = (λ h. tt, λ h. tt)
own-holds schema r (d ∷ ds) suit [] is = (λ h. tt, λ h. tt)
own-holds schema r (d ∷ ds) suit (n ∷ f) is =
    let first = predicate-holds schema r d.slot (predicate_at d.predicates n) (suit.0 n) in
    let rest = own-holds schema r ds suit.1 f is.1 in
    (λ h. (first.0 h.0, rest.0 h.1), λ h. (first.1 h.0, rest.1 h.1))

one-of-holds : (schema : Schema) (r : Request) (d : Stratum) → ((n : ℕ) → SuitsSlot schema d.slot (predicate_at d.predicates n)) → (numbers : List ℕ) → (SomeHolds r (of_plans (map (number_plan d) numbers)) ↔ MeetsOneOf r d numbers)
one-of-holds schema r d suit [] = (λ h. absurd h, λ h. absurd (omega (arith, h.1.1)))
one-of-holds schema r d suit (n ∷ ns) =
    let first = predicate-holds schema r d.slot (predicate_at d.predicates n) (suit n) in
    let rest = one-of-holds schema r d suit ns in (
      λ h. elim h [
        | inl here ↦ (n, (0, omega arith, refl), first.0 here)
        | inr later ↦ (let m = rest.0 later in (m.0, Contains-append_right (n ∷ []) ns m.0 m.1, m.2))
      ],
      λ h. elim (Contains-append_cases (n ∷ []) ns h.0 h.1) [
        | inl here ↦ elim (Contains-push_cases [] n h.0 here) [
          | inl none ↦ absurd (omega (arith, none.1))
          | inr same ↦ inl (first.1 (subst (λ (m : ℕ). MeetsPredicate d.slot (predicate_at d.predicates m) r) (sym same) h.2))
        ]
        | inr later ↦ inr (rest.1 (h.0, later, h.2))
      ],
    )

finer-holds : (schema : Schema) (r : Request) (ds : List Stratum) → AllSuit schema ds → (f : List ℕ) → (SomeHolds r (of_plans (finer_plans ds f)) ↔ MeetsFiner r ds f)
finer-holds schema r [] suit f = (λ h. h, λ h. h)
finer-holds schema r (d ∷ ds) suit [] = (λ h. h, λ h. h)
finer-holds schema r (d ∷ ds) suit (n ∷ f) =
    let first = one-of-holds schema r d suit.0 (numbers_below d n) in
    let rest = finer-holds schema r ds suit.1 f in
    let both = some-append r (map (number_plan d) (numbers_below d n)) (finer_plans ds f) in (
      λ h. elim (both.0 h) [ inl a ↦ inl (first.0 a) | inr b ↦ inr (rest.0 b) ],
      λ h. elim h [ inl a ↦ both.1 (inl (first.1 a)) | inr b ↦ both.1 (inr (rest.1 b)) ],
    )

-- ---- the whole

pub plan-holds : (schema : Schema) (region : Region) (ds : List Stratum) → RegionFits schema region → AllHaveSteps schema ds → AllSuit schema ds → (f : List ℕ) → IsFinding ds f → (r : Request) → IsValid schema r →
    (PlanHolds r (finding_plan (region_plan schema region) ds f) ↔ IsOwn schema region ds f r)
plan-holds schema region ds fits steps suit f is r valid =
    let own = own-holds schema r ds suit f is in
    let finer = finer-holds schema r ds suit f in
    let allowed = region-holds schema r region fits valid in
    let parts = each-append r (own_plans ds f) (not (one_of (of_plans (finer_plans ds f))) ∷ region_plan schema region ∷ []) in (
      λ h. let both = parts.0 h in record {
        valid = valid;
        allowed = allowed.0 both.1.1.0;
        lies = own.0 both.0;
        no_finer = λ g is_g strict lies. both.1.0 (finer.1 (meets-finer schema r valid ds steps g f is_g is strict lies));
      },
      λ h. parts.1 (
        own.1 h.lies,
        (
          λ some. (
              let lower = lies-finer schema r ds f h.lies (finer.0 some) in
              h.no_finer lower.finer (under-finding schema ds steps lower.finer f lower.under is) (under-finer schema ds steps lower.finer f lower.under) lower.lies),
          (allowed.1 h.allowed, tt),
        ),
      ),
    )

-- a request lies in the finding and in no finer one, and in the region, exactly where it is the finding's own
pub own-if : (schema : Schema) (region : Region) (ds : List Stratum) → AllHaveSteps schema ds → AllSuit schema ds → (f : List ℕ) → IsFinding ds f → (r : Request) → IsValid schema r →
    ((PlanHolds r (lying_plan ds f) × LiesInRegion schema region r) ↔ IsOwn schema region ds f r)
own-if schema region ds steps suit f is r valid =
    let own = own-holds schema r ds suit f is in
    let finer = finer-holds schema r ds suit f in
    let parts = each-append r (own_plans ds f) (not (one_of (of_plans (finer_plans ds f))) ∷ []) in (
      λ h. let both = parts.0 h.0 in record {
        valid = valid;
        allowed = h.1;
        lies = own.0 both.0;
        no_finer = λ g is_g strict lies. both.1.0 (finer.1 (meets-finer schema r valid ds steps g f is_g is strict lies));
      },
      λ h. (
        parts.1 (
          own.1 h.lies,
          (
            λ some. (
                let lower = lies-finer schema r ds f h.lies (finer.0 some) in
                h.no_finer lower.finer (under-finding schema ds steps lower.finer f lower.under is) (under-finer schema ds steps lower.finer f lower.under) lower.lies),
            tt,
          ),
        ),
        h.allowed,
      ),
    )

-- so its tree holds under the request's answers exactly there
pub query-holds : (schema : Schema) (region : Region) (ds : List Stratum) → RegionFits schema region → AllHaveSteps schema ds → AllSuit schema ds → (f : List ℕ) → IsFinding ds f → (q : Query) → IsFindingQuery (region_plan schema region) ds f q →
    (r : Request) (answers : ℕ → Bool) → IsValid schema r → AnswersAs answers r q.tests → (IsTrue (holds answers (tree_of q.formula.value)) ↔ IsOwn schema region ds f r)
query-holds schema region ds fits steps suit f is q asks r answers valid say =
    let numbered = holds-numbered answers r q.tests say (finding_plan (region_plan schema region) ds f) (tree_of q.formula.value) asks.tree in
    let own = plan-holds schema region ds fits steps suit f is r valid in
    (λ h. own.0 (numbered.0 h), λ h. numbered.1 (own.1 h))
