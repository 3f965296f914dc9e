-- The order of findings, made of the orders of their dimensions.
use Rattle.std.proofs.Common.{◌≡◌, ◌≢◌, ◌⊎◌, ℕ, ◌+◌, ◌<◌, ◌≤◌, List, [], ◌∷◌, length, inl, inr, refl, sym, ap, subst, arith}
use Rattle.std.specs.Prelude.{Contains, ⊤}
use Rattle.formula_tree.proofs.Laws.{cases_eq}
use Rattle.policy_model.specs.declared.schema.Schema.{Schema}
use Rattle.policy_model.specs.declared.request.Request.{Request}
use Rattle.policy_model.specs.Requests.{IsValid}
use Rattle.strata.specs.Predicates.{MeetsPredicate}
use Rattle.strata.specs.declared.stratum.Stratum.{Stratum}
use Rattle.strata.specs.Covers.{predicate_at, IsBelowAt, IsStrictlyBelow}
use Rattle.findings.specs.Queries.{numbers_below}
use Rattle.findings.specs.Findings.{IsFinding, IsFiner, IsStrictlyFiner, LiesInFinding}
use Rattle.findings.specs.Steps.{IsRightUnder, MeetsFiner}
use Rattle.findings.specs.Walks.{first_finding}

-- a number right below one
pub record HasRightBelow (schema : Schema) (d : Stratum) (i j : ℕ) : Type 0 where
  pub number : ℕ
  pub right : Contains (numbers_below d j) number
  pub least : IsBelowAt schema d.slot d.predicates i number

-- a number that one is right below
pub record HasRightAbove (schema : Schema) (d : Stratum) (i j : ℕ) : Type 0 where
  pub number : ℕ
  pub within : number < length d.predicates
  pub right : Contains (numbers_below d number) i
  pub most : IsBelowAt schema d.slot d.predicates number j

-- what is used of the order of a dimension
pub record HasSteps (schema : Schema) (d : Stratum) : Type 0 where
  pub nonempty : 0 < length d.predicates
  pub top : (i : ℕ) → IsBelowAt schema d.slot d.predicates i 0
  pub equal : (i j : ℕ) → i < length d.predicates → j < length d.predicates → IsBelowAt schema d.slot d.predicates i j → IsBelowAt schema d.slot d.predicates j i → i ≡ j
  pub every : (r : Request) → MeetsPredicate d.slot (predicate_at d.predicates 0) r
  pub rank : ℕ → ℕ
  pub ranked : (i : ℕ) → rank i ≤ length d.predicates
  pub falls : (i j : ℕ) → IsStrictlyBelow schema d.slot d.predicates i j → rank j < rank i
  pub down : (i j : ℕ) → IsStrictlyBelow schema d.slot d.predicates i j → HasRightBelow schema d i j
  pub up : (i j : ℕ) → IsStrictlyBelow schema d.slot d.predicates i j → HasRightAbove schema d i j
  pub strictly : (i j : ℕ) → Contains (numbers_below d j) i → IsStrictlyBelow schema d.slot d.predicates i j

abbrev pub AllHaveSteps : Schema → List Stratum → Type 0
AllHaveSteps schema [] = ⊤
AllHaveSteps schema (d ∷ ds) = HasSteps schema d × AllHaveSteps schema ds

-- two findings are equal, or they aren't
pub same-or-not : (f g : List ℕ) → (f ≡ g) ⊎ (f ≢ g)
same-or-not [] [] = inl refl
same-or-not [] (m ∷ g) = inr (λ e. absurd (cc))
same-or-not (n ∷ f) [] = inr (λ e. absurd (cc))
same-or-not (n ∷ f) (m ∷ g) = elim (cases_eq n m) [
  | inl first ↦ elim (same-or-not f g) [
    | inl rest ↦ inl (cc)
    | inr differ ↦ inr (λ e. differ (cc))
  ]
  | inr differ ↦ inr (λ e. differ (cc))
]

-- each finding is finer than itself
pub finer-refl : (schema : Schema) (ds : List Stratum) (f : List ℕ) → IsFiner schema ds f f
finer-refl schema [] f = tt
finer-refl schema (d ∷ ds) [] = tt
finer-refl schema (d ∷ ds) (n ∷ f) = (λ r valid meets. meets, finer-refl schema ds f)

pub finer-trans : (schema : Schema) (ds : List Stratum) (f g h : List ℕ) → IsFinding ds g → IsFiner schema ds f g → IsFiner schema ds g h → IsFiner schema ds f h
finer-trans schema [] f g h is a b = tt
finer-trans schema (d ∷ ds) [] g h is a b = tt
finer-trans schema (d ∷ ds) (n ∷ f) g [] is a b = tt
finer-trans schema (d ∷ ds) (n ∷ f) [] (k ∷ h) is a b = absurd is
finer-trans schema (d ∷ ds) (n ∷ f) (m ∷ g) (k ∷ h) is a b = (λ r valid meets. b.0 r valid (a.0 r valid meets), finer-trans schema ds f g h is.1 a.1 b.1)

pub finer-equal : (schema : Schema) (ds : List Stratum) → AllHaveSteps schema ds → (f g : List ℕ) → IsFinding ds f → IsFinding ds g → IsFiner schema ds f g → IsFiner schema ds g f → f ≡ g
finer-equal schema [] steps [] [] is_f is_g a b = refl
finer-equal schema [] steps [] (m ∷ g) is_f is_g a b = absurd is_g
finer-equal schema [] steps (n ∷ f) g is_f is_g a b = absurd is_f
finer-equal schema (d ∷ ds) steps [] g is_f is_g a b = absurd is_f
finer-equal schema (d ∷ ds) steps (n ∷ f) [] is_f is_g a b = absurd is_g
finer-equal schema (d ∷ ds) steps (n ∷ f) (m ∷ g) is_f is_g a b =
    let first : n ≡ m = steps.0.equal n m is_f.0 is_g.0 a.0 b.0 in
    let rest : f ≡ g = finer-equal schema ds steps.1 f g is_f.1 is_g.1 a.1 b.1 in
    cc

pub strictly-finer : (schema : Schema) (ds : List Stratum) → AllHaveSteps schema ds → (f g h : List ℕ) → IsFinding ds f → IsFinding ds g → IsStrictlyFiner schema ds f g → IsFiner schema ds g h → IsStrictlyFiner schema ds f h
strictly-finer schema ds steps f g h is_f is_g a b = (
  finer-trans schema ds f g h is_g a.0 b,
  λ e. a.1 (finer-equal schema ds steps f g is_f is_g a.0 (subst (λ (x : List ℕ). IsFiner schema ds g x) (sym e) b)),
)

-- a valid request lies in each finding that isn't finer
pub lies-above : (schema : Schema) (r : Request) → IsValid schema r → (ds : List Stratum) (f g : List ℕ) → IsFinding ds f → IsFiner schema ds f g → LiesInFinding r ds f → LiesInFinding r ds g
lies-above schema r valid [] f g is a lies = tt
lies-above schema r valid (d ∷ ds) f [] is a lies = tt
lies-above schema r valid (d ∷ ds) [] (m ∷ g) is a lies = absurd is
lies-above schema r valid (d ∷ ds) (n ∷ f) (m ∷ g) is a lies = (a.0 r valid lies.0, lies-above schema r valid ds f g is.1 a.1 lies.1)

-- ---- steps

-- a finding right under one is a strictly finer finding
pub under-finding : (schema : Schema) (ds : List Stratum) → AllHaveSteps schema ds → (g f : List ℕ) → IsRightUnder ds g f → IsFinding ds f → IsFinding ds g
under-finding schema [] steps g f at is = absurd at
under-finding schema (d ∷ ds) steps [] f at is = absurd at
under-finding schema (d ∷ ds) steps (m ∷ g) [] at is = absurd at
under-finding schema (d ∷ ds) steps (m ∷ g) (n ∷ f) (inl at) is = ((steps.0.strictly m n at.0).lower, subst (IsFinding ds) (sym at.1) is.1)
under-finding schema (d ∷ ds) steps (m ∷ g) (n ∷ f) (inr at) is = (subst (λ (k : ℕ). k < length d.predicates) (sym at.0) is.0, under-finding schema ds steps.1 g f at.1 is.1)

-- and the one that it is under is a finding, where it is one
pub above-finding : (schema : Schema) (ds : List Stratum) → AllHaveSteps schema ds → (g f : List ℕ) → IsRightUnder ds g f → IsFinding ds g → IsFinding ds f
above-finding schema [] steps g f at is = absurd at
above-finding schema (d ∷ ds) steps [] f at is = absurd at
above-finding schema (d ∷ ds) steps (m ∷ g) [] at is = absurd at
above-finding schema (d ∷ ds) steps (m ∷ g) (n ∷ f) (inl at) is = ((steps.0.strictly m n at.0).upper, subst (IsFinding ds) at.1 is.1)
above-finding schema (d ∷ ds) steps (m ∷ g) (n ∷ f) (inr at) is = (subst (λ (k : ℕ). k < length d.predicates) at.0 is.0, above-finding schema ds steps.1 g f at.1 is.1)

finer-same : (schema : Schema) (ds : List Stratum) (f g : List ℕ) → f ≡ g → IsFiner schema ds f g
finer-same schema ds f g e = subst (IsFiner schema ds f) e (finer-refl schema ds f)

at-same : (schema : Schema) (d : Stratum) (n m : ℕ) → n ≡ m → IsBelowAt schema d.slot d.predicates n m
at-same schema d n m e = subst (IsBelowAt schema d.slot d.predicates n) e (λ r valid meets. meets)

pub under-finer : (schema : Schema) (ds : List Stratum) → AllHaveSteps schema ds → (g f : List ℕ) → IsRightUnder ds g f → IsStrictlyFiner schema ds g f
under-finer schema [] steps g f at = absurd at
under-finer schema (d ∷ ds) steps [] f at = absurd at
under-finer schema (d ∷ ds) steps (m ∷ g) [] at = absurd at
under-finer schema (d ∷ ds) steps (m ∷ g) (n ∷ f) (inl at) =
    let s = steps.0.strictly m n at.0 in
    ((s.below, finer-same schema ds g f at.1), λ e. s.differ (cc))
under-finer schema (d ∷ ds) steps (m ∷ g) (n ∷ f) (inr at) =
    let rest = under-finer schema ds steps.1 g f at.1 in
    ((at-same schema d m n at.0, rest.0), λ e. rest.1 (cc))

-- a finding that a finer one is right under
pub record HasAbove (schema : Schema) (ds : List Stratum) (f g : List ℕ) : Type 0 where
  pub above : List ℕ
  pub under : IsRightUnder ds f above
  pub most : IsFiner schema ds above g

pub step-above : (schema : Schema) (ds : List Stratum) → AllHaveSteps schema ds → (f g : List ℕ) → IsFinding ds f → IsFinding ds g → IsStrictlyFiner schema ds f g → HasAbove schema ds f g
step-above schema [] steps [] [] is_f is_g strict = absurd (strict.1 refl)
step-above schema [] steps [] (m ∷ g) is_f is_g strict = absurd is_g
step-above schema [] steps (n ∷ f) g is_f is_g strict = absurd is_f
step-above schema (d ∷ ds) steps [] g is_f is_g strict = absurd is_f
step-above schema (d ∷ ds) steps (n ∷ f) [] is_f is_g strict = absurd is_g
step-above schema (d ∷ ds) steps (n ∷ f) (m ∷ g) is_f is_g strict = elim (cases_eq n m) [
  | inl same ↦ (
      let differ : f ≢ g = λ e. strict.1 (cc) in
      let rest = step-above schema ds steps.1 f g is_f.1 is_g.1 (strict.0.1, differ) in
      record { above = n ∷ rest.above; under = inr (refl, rest.under); most = (strict.0.0, rest.most) }
      )
  | inr differ ↦ (
      let first = steps.0.up n m (record { lower = is_f.0; upper = is_g.0; differ = differ; below = strict.0.0 }) in
      record { above = first.number ∷ f; under = inl (first.right, refl); most = (first.most, strict.0.1) }
      )
]

-- a request in a strictly finer finding meets one of the predicates right below
pub meets-finer : (schema : Schema) (r : Request) → IsValid schema r → (ds : List Stratum) → AllHaveSteps schema ds → (g f : List ℕ) → IsFinding ds g → IsFinding ds f → IsStrictlyFiner schema ds g f → LiesInFinding r ds g → MeetsFiner r ds f
meets-finer schema r valid [] steps [] [] is_g is_f strict lies = absurd (strict.1 refl)
meets-finer schema r valid [] steps [] (n ∷ f) is_g is_f strict lies = absurd is_f
meets-finer schema r valid [] steps (m ∷ g) f is_g is_f strict lies = absurd is_g
meets-finer schema r valid (d ∷ ds) steps [] f is_g is_f strict lies = absurd is_g
meets-finer schema r valid (d ∷ ds) steps (m ∷ g) [] is_g is_f strict lies = absurd is_f
meets-finer schema r valid (d ∷ ds) steps (m ∷ g) (n ∷ f) is_g is_f strict lies = elim (cases_eq m n) [
  | inl same ↦ (
      let differ : g ≢ f = λ e. strict.1 (cc) in
      inr (meets-finer schema r valid ds steps.1 g f is_g.1 is_f.1 (strict.0.1, differ) lies.1)
      )
  | inr differ ↦ (
      let first = steps.0.down m n (record { lower = is_g.0; upper = is_f.0; differ = differ; below = strict.0.0 }) in
      inl (first.number, first.right, first.least r valid lies.0)
      )
]

-- a strictly finer finding that the request lies in
pub record LiesFiner (schema : Schema) (r : Request) (ds : List Stratum) (f : List ℕ) : Type 0 where
  pub finer : List ℕ
  pub under : IsRightUnder ds finer f
  pub lies : LiesInFinding r ds finer

pub lies-finer : (schema : Schema) (r : Request) (ds : List Stratum) (f : List ℕ) → LiesInFinding r ds f → MeetsFiner r ds f → LiesFiner schema r ds f
lies-finer schema r [] f lies meets = absurd meets
lies-finer schema r (d ∷ ds) [] lies meets = absurd meets
lies-finer schema r (d ∷ ds) (n ∷ f) lies (inl h) = record { finer = h.0 ∷ f; under = inl (h.1, refl); lies = (h.2, lies.1) }
lies-finer schema r (d ∷ ds) (n ∷ f) lies (inr h) =
    let rest = lies-finer schema r ds f lies.1 h in
    record { finer = n ∷ rest.finer; under = inr (refl, rest.under); lies = (lies.0, rest.lies) }

-- ---- how low a finding stands

abbrev pub rank_of : (schema : Schema) (ds : List Stratum) → AllHaveSteps schema ds → List ℕ → ℕ
rank_of schema [] steps f = 0
rank_of schema (d ∷ ds) steps [] = 0
rank_of schema (d ∷ ds) steps (n ∷ f) = steps.0.rank n + rank_of schema ds steps.1 f

rank-at-most : (schema : Schema) (d : Stratum) (steps : HasSteps schema d) (n m : ℕ) → n < length d.predicates → m < length d.predicates → IsBelowAt schema d.slot d.predicates n m → steps.rank m ≤ steps.rank n
rank-at-most schema d steps n m is_n is_m a = elim (cases_eq n m) [
  | inl same ↦ (let e : steps.rank n ≡ steps.rank m = ap steps.rank same in omega (arith, e))
  | inr differ ↦ omega (arith, steps.falls n m (record { lower = is_n; upper = is_m; differ = differ; below = a }))
]

ranks-at-most : (schema : Schema) (ds : List Stratum) (steps : AllHaveSteps schema ds) (f g : List ℕ) → IsFinding ds f → IsFinding ds g → IsFiner schema ds f g → rank_of schema ds steps g ≤ rank_of schema ds steps f
ranks-at-most schema [] steps f g is_f is_g a = omega arith
ranks-at-most schema (d ∷ ds) steps [] g is_f is_g a = absurd is_f
ranks-at-most schema (d ∷ ds) steps (n ∷ f) [] is_f is_g a = absurd is_g
ranks-at-most schema (d ∷ ds) steps (n ∷ f) (m ∷ g) is_f is_g a = omega (arith, rank-at-most schema d steps.0 n m is_f.0 is_g.0 a.0, ranks-at-most schema ds steps.1 f g is_f.1 is_g.1 a.1)

-- a strictly finer finding stands lower
pub ranks-fall : (schema : Schema) (ds : List Stratum) (steps : AllHaveSteps schema ds) (f g : List ℕ) → IsFinding ds f → IsFinding ds g → IsStrictlyFiner schema ds f g → rank_of schema ds steps g < rank_of schema ds steps f
ranks-fall schema [] steps [] [] is_f is_g strict = absurd (strict.1 refl)
ranks-fall schema [] steps [] (m ∷ g) is_f is_g strict = absurd is_g
ranks-fall schema [] steps (n ∷ f) g is_f is_g strict = absurd is_f
ranks-fall schema (d ∷ ds) steps [] g is_f is_g strict = absurd is_f
ranks-fall schema (d ∷ ds) steps (n ∷ f) [] is_f is_g strict = absurd is_g
ranks-fall schema (d ∷ ds) steps (n ∷ f) (m ∷ g) is_f is_g strict = elim (cases_eq n m) [
  | inl same ↦ (
      let differ : f ≢ g = λ e. strict.1 (cc) in
      let e : steps.0.rank n ≡ steps.0.rank m = ap steps.0.rank same in
      omega (arith, e, ranks-fall schema ds steps.1 f g is_f.1 is_g.1 (strict.0.1, differ))
      )
  | inr differ ↦ (
      let first = steps.0.falls n m (record { lower = is_f.0; upper = is_g.0; differ = differ; below = strict.0.0 }) in
      omega (arith, first, ranks-at-most schema ds steps.1 f g is_f.1 is_g.1 strict.0.1)
      )
]

-- ---- the first finding

-- zeros

pub zeros-finding : (schema : Schema) (ds : List Stratum) → AllHaveSteps schema ds → IsFinding ds (first_finding ds)
zeros-finding schema [] steps = tt
zeros-finding schema (d ∷ ds) steps = (steps.0.nonempty, zeros-finding schema ds steps.1)

pub zeros-above : (schema : Schema) (ds : List Stratum) → AllHaveSteps schema ds → (f : List ℕ) → IsFiner schema ds f (first_finding ds)
zeros-above schema [] steps f = tt
zeros-above schema (d ∷ ds) steps [] = tt
zeros-above schema (d ∷ ds) steps (n ∷ f) = (steps.0.top n, zeros-above schema ds steps.1 f)

-- every request lies in it
pub lies-first : (schema : Schema) (r : Request) (ds : List Stratum) → AllHaveSteps schema ds → LiesInFinding r ds (first_finding ds)
lies-first schema r [] steps = tt
lies-first schema r (d ∷ ds) steps = (steps.0.every r, lies-first schema r ds steps.1)

-- no finding stands lower than there are predicates
abbrev pub most_rank : List Stratum → ℕ
most_rank [] = 0
most_rank (d ∷ ds) = length d.predicates + most_rank ds

pub rank-within : (schema : Schema) (ds : List Stratum) (steps : AllHaveSteps schema ds) (f : List ℕ) → rank_of schema ds steps f ≤ most_rank ds
rank-within schema [] steps f = omega arith
rank-within schema (d ∷ ds) steps [] = omega arith
rank-within schema (d ∷ ds) steps (n ∷ f) = omega (arith, steps.0.ranked n, rank-within schema ds steps.1 f)
