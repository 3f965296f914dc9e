-- A request in a finding and in those right under it, dimension by dimension.
use Rattle.std.proofs.Common.{◌≡◌, ℕ, zero, suc, ◌+◌, ◌<◌, Bool, false, List, [], ◌∷◌, Some, length, get_or, inl, inr, refl, sym, subst, arith}
use Rattle.std.specs.Prelude.{Contains, slice_get}
use Rattle.std.proofs.lemmas.Bool.{cases_lt}
use Rattle.std.proofs.lemmas.List.Elements.{Contains-get_or}
use Rattle.policy_model.specs.declared.request.Request.{Request}
use Rattle.policy_model.specs.declared.schema.Schema.{Schema}
use Rattle.policy_model.specs.Requests.{IsValid}
use Rattle.policy_compile.specs.declared.outcome.Query.{Query}
use Rattle.strata.specs.declared.stratum.Strata.{Strata}
use Rattle.strata.specs.declared.stratum.Stratum.{Stratum}
use Rattle.strata.specs.Covers.{predicate_at}
use Rattle.strata.specs.Predicates.{MeetsPredicate}
use Rattle.findings.specs.Findings.{IsFinding, LiesInFinding}
use Rattle.findings.specs.Judging.{DecidesAllowed, DecidesOwn, DecidesOwnBy}
use Rattle.findings.specs.Queries.{numbers_below}
use Rattle.findings.specs.Steps.{MeetsFiner, MeetsOneOf, predicate_number_at}
use Rattle.findings.proofs.Made.{made-steps}
use Rattle.findings.proofs.Orders.{lies-finer, meets-finer, under-finding, under-finer}

-- the request meets the predicate of the finding's number in the dimension
abbrev pub MeetsAt : Request → Stratum → List ℕ → ℕ → Type 0
MeetsAt r d f j = MeetsPredicate d.slot (predicate_at d.predicates (predicate_number_at f j)) r

-- or one of those that are maximal strictly below it
abbrev pub MeetsBelowAt : Request → Stratum → List ℕ → ℕ → Type 0
MeetsBelowAt r d f j = MeetsOneOf r d (numbers_below d (predicate_number_at f j))

pub lies-all : (r : Request) (ds : List Stratum) (f : List ℕ) → IsFinding ds f → ((j : ℕ) (d : Stratum) → j < length f → slice_get ds j ≡ Some d → MeetsAt r d f j) → LiesInFinding r ds f
lies-all r [] f is each = tt
lies-all r (d ∷ ds) [] is each = tt
lies-all r (d ∷ ds) (n ∷ f) is each = (each 0 d (omega arith) refl, lies-all r ds f is.1 (λ j e less at. each (suc j) e (omega (arith, less)) at))

pub lies-at : (r : Request) (ds : List Stratum) (f : List ℕ) → IsFinding ds f → LiesInFinding r ds f → (j : ℕ) (d : Stratum) → slice_get ds j ≡ Some d → MeetsAt r d f j
lies-at r [] f is lies j d at = absurd (cc)
lies-at r (e ∷ ds) [] is lies j d at = absurd is
lies-at r (e ∷ ds) (n ∷ f) is lies zero d at = let same : e ≡ d = cc in subst (λ (x : Stratum). MeetsPredicate x.slot (predicate_at x.predicates n) r) same lies.0
lies-at r (e ∷ ds) (n ∷ f) is lies (suc j) d at = lies-at r ds f is.1 lies.1 j d at

pub finer-at : (r : Request) (ds : List Stratum) (f : List ℕ) → IsFinding ds f → (j : ℕ) (d : Stratum) → slice_get ds j ≡ Some d → MeetsBelowAt r d f j → MeetsFiner r ds f
finer-at r [] f is j d at meets = absurd (cc)
finer-at r (e ∷ ds) [] is j d at meets = absurd is
finer-at r (e ∷ ds) (n ∷ f) is zero d at meets = let same : d ≡ e = cc in inl (subst (λ (x : Stratum). MeetsOneOf r x (numbers_below x n)) same meets)
finer-at r (e ∷ ds) (n ∷ f) is (suc j) d at meets = inr (finer-at r ds f is.1 j d at meets)

pub finer-none : (r : Request) (ds : List Stratum) (f : List ℕ) → IsFinding ds f → ((j : ℕ) (d : Stratum) → j < length f → slice_get ds j ≡ Some d → ¬ MeetsBelowAt r d f j) → ¬ MeetsFiner r ds f
finer-none r [] f is none meets = meets
finer-none r (d ∷ ds) [] is none meets = meets
finer-none r (d ∷ ds) (n ∷ f) is none meets = elim meets [
  | inl here ↦ none 0 d (omega arith) refl here
  | inr later ↦ finer-none r ds f is.1 (λ j e less at. none (suc j) e (omega (arith, less)) at) later
]

-- what holds at the dimensions so far and at one more
pub at-next : (P : Stratum → List ℕ → ℕ → Type 0) (ds : List Stratum) (f : List ℕ) (i : ℕ) (d : Stratum) → slice_get ds i ≡ Some d → ((j : ℕ) (e : Stratum) → j < i → slice_get ds j ≡ Some e → P e f j) → P d f i →
    (j : ℕ) (e : Stratum) → j < i + 1 → slice_get ds j ≡ Some e → P e f j
at-next P ds f i d at before here j e less there = elim (cases_lt j i) [
  | inl lower ↦ before j e lower there
  | inr upper ↦ (
      let same : j ≡ i = omega (arith, less, upper) in
      let own : slice_get ds i ≡ Some e = subst (λ (k : ℕ). slice_get ds k ≡ Some e) same there in
      let is : d ≡ e = cc in
      subst (λ (k : ℕ). P e f k) (sym same) (subst (λ (x : Stratum). P x f i) is here))
]

-- ---- the numbers below one

pub one-below : (r : Request) (d : Stratum) (numbers items : List ℕ) (k : ℕ) → items ≡ numbers → k < length items → MeetsPredicate d.slot (predicate_at d.predicates (get_or items k 0)) r → MeetsOneOf r d numbers
one-below r d numbers items k is within meets =
    subst (MeetsOneOf r d) is (get_or items k 0, Contains-get_or items k 0 within, meets)

pub none-below : (r : Request) (d : Stratum) (numbers items : List ℕ) → items ≡ numbers → ((k : ℕ) → k < length items → ¬ MeetsPredicate d.slot (predicate_at d.predicates (get_or items k 0)) r) → ¬ MeetsOneOf r d numbers
none-below r d numbers items is none meets =
    let there : Contains items meets.0 = subst (λ (xs : List ℕ). Contains xs meets.0) (sym is) meets.1 in
    none there.0 there.1 (subst (λ (m : ℕ). MeetsPredicate d.slot (predicate_at d.predicates m) r) (sym (read items there.0 meets.0 there.1 there.2)) meets.2)
  where
    read : (xs : List ℕ) (k m : ℕ) → k < length xs → get_or xs k m ≡ m → get_or xs k 0 ≡ m
    read [] k m within e = absurd (omega (arith, within))
    read (x ∷ xs) zero m within e = e
    read (x ∷ xs) (suc k) m within e = read xs k m (omega (arith, within)) e

-- ---- own requests

module _ (schema : Schema) (base : Query) (strata : Strata) (f : List ℕ) (is : IsFinding strata.dimensions f) (r : Request) where
  pub own-invalid : ¬ IsValid schema r → DecidesOwn schema base strata f r false
  own-invalid wrong set made = (λ e. absurd (cc), λ own. absurd (wrong own.valid))

  pub own-outside : ¬ LiesInFinding r strata.dimensions f → DecidesOwnBy schema base strata f r false
  own-outside outside region asks = (λ e. absurd (cc), λ own. absurd (outside own.lies))

  pub own-finer : LiesInFinding r strata.dimensions f → MeetsFiner r strata.dimensions f → DecidesOwnBy schema base strata f r false
  own-finer lies meets region asks = (
    λ e. absurd (cc),
    λ own. (
        let steps = made-steps schema region asks.base strata asks.made in
        let lower = lies-finer schema r strata.dimensions f lies meets in
        absurd (own.no_finer lower.finer (under-finding schema strata.dimensions steps lower.finer f lower.under is) (under-finer schema strata.dimensions steps lower.finer f lower.under) lower.lies)),
  )

  pub own-allowed : (b : Bool) → IsValid schema r → LiesInFinding r strata.dimensions f → ¬ MeetsFiner r strata.dimensions f → DecidesAllowed base r b → DecidesOwnBy schema base strata f r b
  own-allowed b valid lies none told region asks =
      let allowed = told schema region asks.is valid in
      let steps = made-steps schema region asks.base strata asks.made in (
        λ h. record {
          valid = valid;
          allowed = allowed.0 h;
          lies = lies;
          no_finer = λ g is_g strict more. none (meets-finer schema r valid strata.dimensions steps g f is_g is strict more);
        },
        λ own. allowed.1 own.allowed,
      )
