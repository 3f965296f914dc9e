-- The steps from a finding to those right under it.
use Rattle.std.specs.Prelude.{◌≡◌, ◌<◌, ◌++◌, ◌^◌, ◌⊎◌, ℕ, List, [], ◌∷◌, All, Contains, Some, length, map, slice_get, slice_index_or, slice_set}
use Rattle.policy_model.specs.declared.request.Request.{Request}
use Rattle.strata.specs.declared.stratum.Stratum.{Stratum}
use Rattle.strata.specs.Covers.{predicate_at}
use Rattle.strata.specs.Predicates.{MeetsPredicate}
use Rattle.findings.specs.Queries.{numbers_below}

-- the first finding is right under the second: one number is changed to one of those that are maximal strictly below it
abbrev pub IsRightUnder : List Stratum → List ℕ → List ℕ → Type 0
IsRightUnder [] g f = ⊥
IsRightUnder (d ∷ ds) [] f = ⊥
IsRightUnder (d ∷ ds) (m ∷ g) [] = ⊥
IsRightUnder (d ∷ ds) (m ∷ g) (n ∷ f) = (Contains (numbers_below d n) m × (g ≡ f)) ⊎ ((m ≡ n) × IsRightUnder ds g f)

-- the request meets one of the predicates of these numbers
abbrev pub MeetsOneOf : Request → Stratum → List ℕ → Type 0
MeetsOneOf r d numbers = (m : ℕ) × Contains numbers m × MeetsPredicate d.slot (predicate_at d.predicates m) r

-- the request meets one of the predicates that are maximal strictly below those of the finding
abbrev pub MeetsFiner : Request → List Stratum → List ℕ → Type 0
MeetsFiner r [] f = ⊥
MeetsFiner r (d ∷ ds) [] = ⊥
MeetsFiner r (d ∷ ds) (n ∷ f) = MeetsOneOf r d (numbers_below d n) ⊎ MeetsFiner r ds f

-- a stratum has a list of numbers for each predicate, which are numbers of its predicates, and 32 bits number them
pub record IsNumberedBelow (d : Stratum) : Type 0 where
  pub count : length d.below ≡ length d.predicates
  pub few : length d.below < 2 ^ 32
  pub each : (n : ℕ) → All (λ m. m < length d.predicates) (numbers_below d n)

abbrev pub AreNumberedBelow : List Stratum → Type 0
AreNumberedBelow ds = All IsNumberedBelow ds

-- the number that a finding has at an index
abbrev pub predicate_number_at : List ℕ → ℕ → ℕ
predicate_number_at f i = slice_index_or f i 0

-- the finding with this number at the index is in the list, where the other is right under it
abbrev pub IsAboveBy : Stratum → List (List ℕ) → List ℕ → ℕ → ℕ → Type 0
IsAboveBy d list f i m = Contains (numbers_below d m) (predicate_number_at f i) → Contains list (slice_set f i m)

-- each finding that this one is right under, by the number at the index, is in the list
abbrev pub AreAboveAt : Stratum → List (List ℕ) → List ℕ → ℕ → Type 0
AreAboveAt d list f i = (m : ℕ) → IsAboveBy d list f i m

-- the findings that are right under this one by the number at the index, in the order of their numbers
abbrev pub under_at : Stratum → List ℕ → ℕ → List (List ℕ)
under_at d f i = map (slice_set f i) (numbers_below d (predicate_number_at f i))

-- they were added
abbrev pub IsAddedAt : Stratum → List ℕ → ℕ → List (List ℕ) → List (List ℕ) → Type 0
IsAddedAt d f i old new = new ≡ old ++ under_at d f i

-- those right under the finding were added, and nothing else
pub record AddUnder (ds : List Stratum) (f : List ℕ) (old new : List (List ℕ)) : Type 0 where
  pub kept : (g : List ℕ) → Contains old g → Contains new g
  pub under : (g : List ℕ) → IsRightUnder ds g f → Contains new g
  pub only : (g : List ℕ) → Contains new g → Contains old g ⊎ IsRightUnder ds g f

-- the first finding is right under the second by the number at the index
pub record IsUnderAt (ds : List Stratum) (i : ℕ) (g f : List ℕ) : Type 0 where
  pub dimension : Stratum
  pub at : slice_get ds i ≡ Some dimension
  pub is : Contains (under_at dimension f i) g

-- those right under the finding by the numbers before the index were added, and nothing else
pub record AddUpTo (ds : List Stratum) (f : List ℕ) (i : ℕ) (old new : List (List ℕ)) : Type 0 where
  pub kept : (g : List ℕ) → Contains old g → Contains new g
  pub under : (j : ℕ) (g : List ℕ) → j < i → IsUnderAt ds j g f → Contains new g
  pub only : (g : List ℕ) → Contains new g → Contains old g ⊎ IsRightUnder ds g f
