-- The laws of summaries.
use Rattle.std.proofs.Common.{◌≢◌, ◌↔◌, ℕ, zero, suc, ◌+◌, ◌<◌, List, [], ◌∷◌, map, sym, subst, ◌∙◌, inl, inr, ◌⊎◌, arith}
use Rattle.std.proofs.lemmas.Bool.{cases_lt}
use Rattle.std.proofs.lemmas.List.{get_or-take, length-take}
use Rattle.std.specs.Prelude.{All, AllPairs, Any, Contains, take}
use Rattle.std.proofs.lemmas.List.Elements.{All-contains, All-head, All-tail, All-take}
use Rattle.policy_model.specs.declared.request.Request.{Request}
use Rattle.policy_model.specs.declared.schema.Schema.{Schema}
use Rattle.policy_model.specs.declared.test.Slot.{Slot}
use Rattle.policy_model.specs.declared.test.Test.{Test}
use Rattle.policy_model.specs.Requests.{IsValid}
use Rattle.policy_model.proofs.Laws.{Any-decided}
use Rattle.slot_theory.specs.Slots.{SlotIsIn}
use Rattle.strata.specs.declared.stratum.Stratum.{Stratum}
use Rattle.strata.specs.Covers.{IsApartAt, OrderIsDecided, predicate_at}
use Rattle.strata.specs.Strata.{IsStratum}
use Rattle.findings.specs.declared.region.Region.{Region}
use Rattle.findings.specs.Findings.{HasNoneAbove, IsFiner, IsFinding, IsIrreducible, IsStrictlyFiner, LiesInFinding}
use Rattle.findings.specs.Laws.{LiesApart, SummariesAreFlat, SummariesAreNeeded, SummariesCover, VisitsAreBounded}
use Rattle.findings.specs.Regions.{LiesInRegion}
use Rattle.findings.specs.Summaries.{IsMaximal, IsSummary, MustBeVisited, findings_of}
use Rattle.findings.specs.Walks.{first_finding}
use Rattle.findings.proofs.Deciding.{lies-decided}
use Rattle.findings.proofs.Made.{made-steps}
use Rattle.findings.proofs.Orders.{AllHaveSteps, lies-above, most_rank, rank-within, rank_of, ranks-fall, lies-first, zeros-finding}
use Rattle.findings.proofs.Parts.{meets-other, meets-own, valid-part, with_part}

-- ---- no finding is finer than another

pub summaries-flat : SummariesAreFlat
summaries-flat schema region strata summary has f g in_f in_g strict =
    let first = All-contains (IsMaximal schema region strata.dimensions) (findings_of summary) f has.is.maximal in_f in
    let second = All-contains (IsMaximal schema region strata.dimensions) (findings_of summary) g has.is.maximal in_g in
    first.none_above g second.finding strict second.irreducible

-- ---- each allowed request lies in some finding

some-lie : (r : Request) (ds : List Stratum) (fs : List (List ℕ)) (f : List ℕ) → Contains fs f → LiesInFinding r ds f → Any (LiesInFinding r ds) fs
some-lie r ds fs f h lies = (h.0, f, h.1, h.2, lies)

module _ (schema : Schema) (region : Region) (ds : List Stratum) (steps : AllHaveSteps schema ds) (summary : List (List ℕ × Request)) (is : IsSummary schema region ds summary) (r : Request) (valid : IsValid schema r)
    (allowed : LiesInRegion schema region r) (none : ¬ Any (LiesInFinding r ds) (findings_of summary)) where
  -- an irreducible finding that the request lies in: were it maximal, it would be in the summary
  no-irreducible : (deep : ℕ) (f : List ℕ) → IsFinding ds f → rank_of schema ds steps f < deep → IsIrreducible schema region ds f → LiesInFinding r ds f → ⊥
  no-irreducible zero f is_f few irreducible lies = omega (arith, few)
  no-irreducible (suc deep) f is_f few irreducible lies =
      let above : HasNoneAbove schema region ds f = λ g is_g strict more.
      no-irreducible deep g is_g (omega (arith, few, ranks-fall schema ds steps f g is_f is_g strict)) more (lies-above schema r valid ds f g is_f strict.0 lies) in
      none (some-lie r ds (findings_of summary) f (is.all f (record { finding = is_f; irreducible = irreducible; none_above = above })) lies)

  -- so it lies in none: the finest would be irreducible
  lies-nowhere : (left : ℕ) (f : List ℕ) → IsFinding ds f → most_rank ds < rank_of schema ds steps f + left → LiesInFinding r ds f → ⊥
  lies-nowhere zero f is_f few lies = omega (arith, few, rank-within schema ds steps f)
  lies-nowhere (suc left) f is_f few lies =
      let finer : (g : List ℕ) → IsFinding ds g → IsStrictlyFiner schema ds g f → ¬ LiesInFinding r ds g = λ g is_g strict more.
      lies-nowhere left g is_g (omega (arith, few, ranks-fall schema ds steps g f is_g is_f strict)) more in
      no-irreducible (suc (rank_of schema ds steps f)) f is_f (omega arith) (r, record { valid = valid; allowed = allowed; lies = lies; no_finer = finer }) lies

  lies-somewhere : ⊥
  lies-somewhere = lies-nowhere (suc (most_rank ds)) (first_finding ds) (zeros-finding schema ds steps) (omega arith) (lies-first schema r ds steps)

pub summaries-cover : SummariesCover
summaries-cover schema region strata summary has r valid allowed =
    let steps = made-steps schema region has.base strata has.made in
    elim (Any-decided (LiesInFinding r strata.dimensions) (lies-decided r strata.dimensions) (findings_of summary)) [
      | inl some ↦ some
      | inr none ↦ absurd (lies-somewhere schema region strata.dimensions steps summary has.is r valid allowed none)
    ]

-- ---- each finding is needed

-- the slot is none of these dimensions'
abbrev IsApartFrom : Slot → List Stratum → Type 0
IsApartFrom s [] = Unit {0}
IsApartFrom s (d ∷ ds) = (s ≢ d.slot) × IsApartFrom s ds

-- the slots differ, and requests under the schema have them
abbrev AreApart : Schema → List Stratum → Type 0
AreApart schema [] = Unit {0}
AreApart schema (d ∷ ds) = SlotIsIn schema d.slot × IsApartFrom d.slot ds × AreApart schema ds

apart-from : (s : Slot) (ds : List Stratum) → All (λ t. s ≢ t) (map (λ x. x.slot) ds) → IsApartFrom s ds
apart-from s [] all = tt
apart-from s (d ∷ ds) all = (All-head (λ t. s ≢ t) d.slot (map (λ x. x.slot) ds) all, apart-from s ds (All-tail (λ t. s ≢ t) d.slot (map (λ x. x.slot) ds) all))

are-apart : (schema : Schema) (ds : List Stratum) → AllPairs (λ s t. s ≢ t) (map (λ x. x.slot) ds) → All (SlotIsIn schema) (map (λ x. x.slot) ds) → AreApart schema ds
are-apart schema [] differ known = tt
are-apart schema (d ∷ ds) differ known = (
  All-head (SlotIsIn schema) d.slot (map (λ x. x.slot) ds) known,
  apart-from d.slot ds (λ k x within. differ 0 (suc k) x (omega arith) (omega (arith, within))),
  are-apart schema ds (λ i j x less within. differ (suc i) (suc j) x (omega (arith, less)) (omega (arith, within))) (All-tail (SlotIsIn schema) d.slot (map (λ x. x.slot) ds) known),
)

lies-besides : (s : Slot) (r q : Request) (ds : List Stratum) (f : List ℕ) → IsApartFrom s ds → (LiesInFinding (with_part s r q) ds f ↔ LiesInFinding r ds f)
lies-besides s r q [] f apart = (λ h. tt, λ h. tt)
lies-besides s r q (d ∷ ds) [] apart = (λ h. tt, λ h. tt)
lies-besides s r q (d ∷ ds) (n ∷ f) apart =
    let first = meets-other s d.slot (predicate_at d.predicates n) r q apart.0 in
    let rest = lies-besides s r q ds f apart.1 in
    (λ h. (first.0 h.0, rest.0 h.1), λ h. (first.1 h.0, rest.1 h.1))

-- the order of each dimension is decided
abbrev AreDecided : Schema → List Stratum → Type 0
AreDecided schema [] = Unit {0}
AreDecided schema (d ∷ ds) = OrderIsDecided schema d.slot d.predicates × AreDecided schema ds

are-decided : (schema : Schema) (tests : List Test) (ds : List Stratum) → All (IsStratum schema tests) ds → AreDecided schema ds
are-decided schema tests [] are = tt
are-decided schema tests (d ∷ ds) are = ((All-head (IsStratum schema tests) d ds are).order.decided, are-decided schema tests ds (All-tail (IsStratum schema tests) d ds are))

-- a finding that some valid request lies in is finer than another one, or such a request isn't in the other. A part of it in one
-- dimension shows that
finer-or-apart : (schema : Schema) (ds : List Stratum) → AreApart schema ds → AreDecided schema ds → (f g : List ℕ) → IsFinding ds f → IsFinding ds g → (q : Request) → IsValid schema q → LiesInFinding q ds f → IsFiner schema ds f g ⊎ LiesApart schema ds f g
finer-or-apart schema [] apart decided f g is_f is_g q valid lies = inl tt
finer-or-apart schema (d ∷ ds) apart decided [] g is_f is_g q valid lies = inl tt
finer-or-apart schema (d ∷ ds) apart decided (n ∷ f) [] is_f is_g q valid lies = inl tt
finer-or-apart schema (d ∷ ds) apart decided (n ∷ f) (m ∷ g) is_f is_g q valid lies = elim (decided.0 n m is_f.0 is_g.0) [
  | inr own ↦ inr (here own)
  | inl below ↦ elim (finer-or-apart schema ds apart.2 decided.1 f g is_f.1 is_g.1 q valid lies.1) [
    | inl finer ↦ inl (below, finer)
    | inr rest ↦ inr (there rest)
  ]
]
  where
    here : IsApartAt schema d.slot d.predicates n m → LiesApart schema (d ∷ ds) (n ∷ f) (m ∷ g)
    here own = record {
      request = with_part d.slot q own.request;
      valid = valid-part schema d.slot q own.request apart.0 valid own.valid;
      lies = ((meets-own d.slot (predicate_at d.predicates n) q own.request).1 own.meets, (lies-besides d.slot q own.request ds f apart.1).1 lies.1);
      misses = λ in_g. own.misses ((meets-own d.slot (predicate_at d.predicates m) q own.request).0 in_g.0);
    }

    there : LiesApart schema ds f g → LiesApart schema (d ∷ ds) (n ∷ f) (m ∷ g)
    there rest = record {
      request = with_part d.slot rest.request q;
      valid = valid-part schema d.slot rest.request q apart.0 rest.valid valid;
      lies = ((meets-own d.slot (predicate_at d.predicates n) rest.request q).1 lies.0, (lies-besides d.slot rest.request q ds f apart.1).1 rest.lies);
      misses = λ in_g. rest.misses ((lies-besides d.slot rest.request q ds g apart.1).0 in_g.1);
    }

pub summaries-needed : SummariesAreNeeded
summaries-needed schema region strata summary has f g in_f in_g differ =
    let first = All-contains (IsMaximal schema region strata.dimensions) (findings_of summary) f has.is.maximal in_f in
    let second = All-contains (IsMaximal schema region strata.dimensions) (findings_of summary) g has.is.maximal in_g in
    let slots = has.made.are.on in
    let apart = are-apart schema strata.dimensions (subst (AllPairs (λ s t. s ≢ t)) (sym slots) has.made.differ) (subst (All (SlotIsIn schema)) (sym slots) has.made.known) in
    let decided = are-decided schema has.base.tests strata.dimensions has.made.are.each in
    let own = first.irreducible in
    elim (finer-or-apart schema strata.dimensions apart decided f g first.finding second.finding own.0 own.1.valid own.1.lies) [
      | inl finer ↦ absurd (first.none_above g second.finding (finer, differ) second.irreducible)
      | inr told ↦ told
    ]

-- ---- counting

take-differ : (n : ℕ) (fs : List (List ℕ)) → AllPairs (λ f g. f ≢ g) fs → AllPairs (λ f g. f ≢ g) (take n fs)
take-differ n fs differ i j d less within same =
    let long = length-take n fs in
    let first = get_or-take n fs i d (omega (arith, less, within, long)) in
    let second = get_or-take n fs j d (omega (arith, within, long)) in
    differ i j d less (omega (arith, within, long)) (sym first ∙ same ∙ second)

pub visits-bounded : VisitsAreBounded
visits-bounded schema region strata few many least exact = elim (cases_lt many few) [
  | inl more ↦ absurd (exact.most (record {
    listed = take (many + 1) least.listed;
    count = (let all = length-take (many + 1) least.listed in omega (arith, all, least.count, more));
    different = take-differ (many + 1) least.listed least.different;
    each = All-take (MustBeVisited schema region strata.dimensions) (many + 1) least.listed least.each;
  }))
  | inr most ↦ most
]
