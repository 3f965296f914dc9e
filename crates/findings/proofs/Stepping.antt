-- The steps between findings, number by number.
use Rattle.std.proofs.Common.{◌≡◌, ℕ, zero, suc, ◌+◌, ◌<◌, ◌≤◌, List, [], ◌∷◌, ◌++◌, Some, length, map, set, take, refl, sym, ap, subst, ◌∙◌, inl, inr, arith}
use Rattle.std.specs.Prelude.{Contains, get_or, slice_get}
use Rattle.std.proofs.lemmas.Option.{get_or_from_slice_get, slice_get-get_or, slice_get_within}
use Rattle.std.proofs.lemmas.Bool.{cases_lt}
use Rattle.std.proofs.lemmas.List.{append-nil, append_assoc, take_all}
use Rattle.std.proofs.lemmas.List.Elements.{Contains-append_cases, Contains-append_left, Contains-append_right, Contains-push_cases}
use Rattle.policy_compile.specs.Plans.{Plan}
use Rattle.strata.specs.declared.stratum.Stratum.{Stratum}
use Rattle.findings.specs.Findings.{IsFinding}
use Rattle.findings.specs.Queries.{finer_plans, number_plan, numbers_below, own_plans}
use Rattle.findings.specs.Steps.{AddUnder, AddUpTo, AreAboveAt, AreNumberedBelow, IsNumberedBelow, IsRightUnder, predicate_number_at, under_at}
use Rattle.findings.specs.Texts.{number_text, predicate_texts}
use Rattle.findings.specs.Walks.{AreAboveIn, first_finding}

-- ---- what a list has that a function gave

pub given-among : {X Y : Type 0} (h : X → Y) (xs : List X) (x : X) → Contains xs x → Contains (map h xs) (h x)
given-among h [] x is = absurd (omega (arith, is.1))
given-among {X} {Y} h (y ∷ xs) x is = elim (Contains-append_cases (y ∷ []) xs x is) [
  | inl first ↦ elim (Contains-push_cases [] y x first) [
    | inl none ↦ absurd (omega (arith, none.1))
    | inr same ↦ subst (λ (z : Y). Contains (h y ∷ map h xs) z) (ap h same) (0, omega arith, refl)
  ]
  | inr later ↦ Contains-append_right (h y ∷ []) (map h xs) (h x) (given-among h xs x later)
]

pub record IsGiven {X Y : Type 0} (h : X → Y) (xs : List X) (y : Y) : Type 0 where
  pub item : X
  pub among : Contains xs item
  pub is : h item ≡ y

pub among-given : {X Y : Type 0} (h : X → Y) (xs : List X) (y : Y) → Contains (map h xs) y → IsGiven h xs y
among-given h [] y is = absurd (omega (arith, is.1))
among-given h (x ∷ xs) y is = elim (Contains-append_cases (h x ∷ []) (map h xs) y is) [
  | inl first ↦ elim (Contains-push_cases [] (h x) y first) [
    | inl none ↦ absurd (omega (arith, none.1))
    | inr same ↦ record { item = x; among = (0, omega arith, refl); is = same }
  ]
  | inr later ↦ (let rest = among-given h xs y later in record { item = rest.item; among = Contains-append_right (x ∷ []) xs rest.item rest.among; is = rest.is })
]

-- ---- one number changed

-- the lower finding, by the number that it has
pub set-under : (ds : List Stratum) (f : List ℕ) (j : ℕ) (d : Stratum) (m : ℕ) → slice_get ds j ≡ Some d → j < length f → Contains (numbers_below d (predicate_number_at f j)) m → IsRightUnder ds (set f j m) f
set-under [] f j d m at within is = absurd (cc)
set-under (e ∷ ds) [] j d m at within is = absurd (omega (arith, within))
set-under (e ∷ ds) (n ∷ f) zero d m at within is = let same : d ≡ e = cc in inl (subst (λ (x : Stratum). Contains (numbers_below x n) m) same is, refl)
set-under (e ∷ ds) (n ∷ f) (suc j) d m at within is = inr (refl, set-under ds f j d m at (omega (arith, within)) is)

-- the upper one
pub under-set : (ds : List Stratum) (f : List ℕ) (j : ℕ) (d : Stratum) (m : ℕ) → slice_get ds j ≡ Some d → j < length f → Contains (numbers_below d m) (predicate_number_at f j) → IsRightUnder ds f (set f j m)
under-set [] f j d m at within is = absurd (cc)
under-set (e ∷ ds) [] j d m at within is = absurd (omega (arith, within))
under-set (e ∷ ds) (n ∷ f) zero d m at within is = let same : d ≡ e = cc in inl (subst (λ (x : Stratum). Contains (numbers_below x m) n) same is, refl)
under-set (e ∷ ds) (n ∷ f) (suc j) d m at within is = inr (refl, under-set ds f j d m at (omega (arith, within)) is)

-- where a step is
pub record IsStepAt (ds : List Stratum) (g f : List ℕ) : Type 0 where
  pub index : ℕ
  pub dimension : Stratum
  pub at : slice_get ds index ≡ Some dimension
  pub within : index < length f
  pub lower : Contains (numbers_below dimension (predicate_number_at f index)) (predicate_number_at g index)
  pub lower_is : g ≡ set f index (predicate_number_at g index)
  pub upper_is : f ≡ set g index (predicate_number_at f index)
  pub long : length g ≡ length f

pub step-at : (ds : List Stratum) (g f : List ℕ) → IsRightUnder ds g f → IsStepAt ds g f
step-at [] g f is = absurd is
step-at (d ∷ ds) [] f is = absurd is
step-at (d ∷ ds) (m ∷ g) [] is = absurd is
step-at (d ∷ ds) (m ∷ g) (n ∷ f) (inl is) = record {
  index = 0;
  dimension = d;
  at = refl;
  within = omega arith;
  lower = is.0;
  lower_is = ap (λ (x : List ℕ). m ∷ x) is.1;
  upper_is = ap (λ (x : List ℕ). n ∷ x) (sym is.1);
  long = ap (λ (x : List ℕ). suc (length x)) is.1;
}
step-at (d ∷ ds) (m ∷ g) (n ∷ f) (inr is) =
    let rest = step-at ds g f is.1 in record {
      index = suc rest.index;
      dimension = rest.dimension;
      at = rest.at;
      within = omega (arith, rest.within);
      lower = rest.lower;
      lower_is = (let tail = rest.lower_is in let head = is.0 in cc);
      upper_is = (let tail = rest.upper_is in let head = is.0 in cc);
      long = ap suc rest.long;
    }

-- ---- all above

pub all-above : (ds : List Stratum) (list : List (List ℕ)) (f : List ℕ) → ((j : ℕ) (d : Stratum) → j < length f → slice_get ds j ≡ Some d → AreAboveAt d list f j) → AreAboveIn ds list f
all-above ds list f each g is =
    let step = step-at ds f g is in
    subst (Contains list) (sym step.upper_is) (each step.index step.dimension (omega (arith, step.within, step.long)) step.at (predicate_number_at g step.index) step.lower)

pub above-at : (ds : List Stratum) (list : List (List ℕ)) (f : List ℕ) → AreAboveIn ds list f → (j : ℕ) (d : Stratum) → j < length f → slice_get ds j ≡ Some d → AreAboveAt d list f j
above-at ds list f all j d within at m is = all (set f j m) (under-set ds f j d m at within is)

-- ---- all right under were added

pub add-next : (ds : List Stratum) (f : List ℕ) (i : ℕ) (d : Stratum) (old mid new : List (List ℕ)) → slice_get ds i ≡ Some d → i < length f → AddUpTo ds f i old mid → new ≡ mid ++ under_at d f i → AddUpTo ds f (i + 1) old new
add-next ds f i d old mid new at within before is =
    subst (AddUpTo ds f (i + 1) old) (sym is) (record {
      kept = λ g h. Contains-append_left mid (under_at d f i) g (before.kept g h);
      under = λ j g less h. elim (cases_lt j i) [
        | inl lower ↦ Contains-append_left mid (under_at d f i) g (before.under j g lower h)
        | inr upper ↦ (
            let same : j ≡ i = omega (arith, less, upper) in
            let here : slice_get ds i ≡ Some h.dimension = subst (λ (k : ℕ). slice_get ds k ≡ Some h.dimension) same h.at in
            let own : h.dimension ≡ d = cc in
            Contains-append_right mid (under_at d f i) g (subst (λ (k : ℕ). Contains (under_at d f k) g) same (subst (λ (x : Stratum). Contains (under_at x f j) g) own h.is)))
      ];
      only = λ g h. elim (Contains-append_cases mid (under_at d f i) g h) [
        | inl old ↦ before.only g old
        | inr added ↦ (
            let m = among-given (set f i) (numbers_below d (predicate_number_at f i)) g added in
            inr (subst (λ (x : List ℕ). IsRightUnder ds x f) m.is (set-under ds f i d m.item at within m.among)))
      ];
    })

pub add-all : (ds : List Stratum) (f : List ℕ) (i : ℕ) (old new : List (List ℕ)) → length f ≤ i → AddUpTo ds f i old new → AddUnder ds f old new
add-all ds f i old new past all = record {
  kept = all.kept;
  under = λ g is. (
      let step = step-at ds g f is in
      all.under step.index g (omega (arith, step.within, past)) (record {
        dimension = step.dimension;
        at = step.at;
        is = subst (λ (x : List ℕ). Contains (under_at step.dimension f step.index) x) (sym step.lower_is) (given-among (set f step.index) (numbers_below step.dimension (predicate_number_at f step.index)) (predicate_number_at g step.index) step.lower);
      }));
  only = all.only;
}

-- ---- one dimension more

first-longer : (ds : List Stratum) (i : ℕ) → i < length ds → first_finding (take (suc i) ds) ≡ first_finding (take i ds) ++ 0 ∷ []
first-longer [] i within = absurd (omega (arith, within))
first-longer (d ∷ ds) zero within = refl
first-longer (d ∷ ds) (suc i) within = ap (λ (x : List ℕ). 0 ∷ x) (first-longer ds i (omega (arith, within)))

pub first-next : (ds : List Stratum) (i : ℕ) → i < length ds → first_finding (take (i + 1) ds) ≡ first_finding (take i ds) ++ 0 ∷ []
first-next ds i within = let e : i + 1 ≡ suc i = omega arith in rw e (first-longer ds i within)

own-longer : (ds : List Stratum) (f : List ℕ) (i : ℕ) (d : Stratum) → slice_get ds i ≡ Some d → i < length f → own_plans (take (suc i) ds) (take (suc i) f) ≡ own_plans (take i ds) (take i f) ++ number_plan d (predicate_number_at f i) ∷ []
own-longer [] f i d at within = absurd (cc)
own-longer (e ∷ ds) [] i d at within = absurd (omega (arith, within))
own-longer (e ∷ ds) (n ∷ f) zero d at within = let same : e ≡ d = cc in ap (λ (x : Stratum). number_plan x n ∷ []) same
own-longer (e ∷ ds) (n ∷ f) (suc i) d at within = ap (λ (x : List Plan). number_plan e n ∷ x) (own-longer ds f i d at (omega (arith, within)))

pub own-next : (ds : List Stratum) (f : List ℕ) (i : ℕ) (d : Stratum) → slice_get ds i ≡ Some d → i < length f → own_plans (take (i + 1) ds) (take (i + 1) f) ≡ own_plans (take i ds) (take i f) ++ number_plan d (predicate_number_at f i) ∷ []
own-next ds f i d at within = let e : i + 1 ≡ suc i = omega arith in rw e (own-longer ds f i d at within)

finer-longer : (ds : List Stratum) (f : List ℕ) (i : ℕ) (d : Stratum) → slice_get ds i ≡ Some d → i < length f → finer_plans (take (suc i) ds) (take (suc i) f) ≡ finer_plans (take i ds) (take i f) ++ map (number_plan d) (numbers_below d (predicate_number_at f i))
finer-longer [] f i d at within = absurd (cc)
finer-longer (e ∷ ds) [] i d at within = absurd (omega (arith, within))
finer-longer (e ∷ ds) (n ∷ f) zero d at within =
    let same : e ≡ d = cc in
    append-nil (map (number_plan e) (numbers_below e n)) ∙ ap (λ (x : Stratum). map (number_plan x) (numbers_below x n)) same
finer-longer (e ∷ ds) (n ∷ f) (suc i) d at within =
    ap (λ (x : List Plan). map (number_plan e) (numbers_below e n) ++ x) (finer-longer ds f i d at (omega (arith, within))) ∙
    sym (append_assoc (map (number_plan e) (numbers_below e n)) (finer_plans (take i ds) (take i f)) (map (number_plan d) (numbers_below d (predicate_number_at f i))))

pub finer-next : (ds : List Stratum) (f : List ℕ) (i : ℕ) (d : Stratum) → slice_get ds i ≡ Some d → i < length f → finer_plans (take (i + 1) ds) (take (i + 1) f) ≡ finer_plans (take i ds) (take i f) ++ map (number_plan d) (numbers_below d (predicate_number_at f i))
finer-next ds f i d at within = let e : i + 1 ≡ suc i = omega arith in rw e (finer-longer ds f i d at within)

texts-longer : (ds : List Stratum) (f : List ℕ) (i : ℕ) (d : Stratum) → slice_get ds i ≡ Some d → i < length f → predicate_texts (take (suc i) ds) (take (suc i) f) ≡ predicate_texts (take i ds) (take i f) ++ number_text d (predicate_number_at f i) ∷ []
texts-longer [] f i d at within = absurd (cc)
texts-longer (e ∷ ds) [] i d at within = absurd (omega (arith, within))
texts-longer (e ∷ ds) (n ∷ f) zero d at within = let same : e ≡ d = cc in ap (λ (x : Stratum). number_text x n ∷ []) same
texts-longer (e ∷ ds) (n ∷ f) (suc i) d at within = ap (λ (x : List (List ℕ)). number_text e n ∷ x) (texts-longer ds f i d at (omega (arith, within)))

pub texts-next : (ds : List Stratum) (f : List ℕ) (i : ℕ) (d : Stratum) → slice_get ds i ≡ Some d → i < length f → predicate_texts (take (i + 1) ds) (take (i + 1) f) ≡ predicate_texts (take i ds) (take i f) ++ number_text d (predicate_number_at f i) ∷ []
texts-next ds f i d at within = let e : i + 1 ≡ suc i = omega arith in rw e (texts-longer ds f i d at within)

-- ---- shapes

-- a finding is as long as there are dimensions
pub finding-long : (ds : List Stratum) (f : List ℕ) → IsFinding ds f → length f ≡ length ds
finding-long [] [] is = refl
finding-long [] (n ∷ f) is = absurd is
finding-long (d ∷ ds) [] is = absurd is
finding-long (d ∷ ds) (n ∷ f) is = ap suc (finding-long ds f is.1)

-- and each of its numbers is in range
pub number-within : (ds : List Stratum) (f : List ℕ) → IsFinding ds f → (i : ℕ) (d : Stratum) → slice_get ds i ≡ Some d → predicate_number_at f i < length d.predicates
number-within [] f is i d at = absurd (cc)
number-within (e ∷ ds) [] is i d at = absurd is
number-within (e ∷ ds) (n ∷ f) is zero d at = let same : e ≡ d = cc in subst (λ (x : Stratum). n < length x.predicates) same is.0
number-within (e ∷ ds) (n ∷ f) is (suc i) d at = number-within ds f is.1 i d at

-- each dimension has its lists
pub numbered-at : (ds : List Stratum) (i : ℕ) (d : Stratum) → AreNumberedBelow ds → slice_get ds i ≡ Some d → IsNumberedBelow d
numbered-at ds i d numbered at = subst IsNumberedBelow (get_or_from_slice_get ds i d d at) (numbered i d (slice_get_within ds i d at))

-- an item that is read within a list
pub read-at : {T : Type 0} (xs ys : List T) (i : ℕ) (x : T) → ys ≡ xs → x ≡ get_or ys i x → i < length xs → slice_get xs i ≡ Some x
read-at {T} xs ys i x same is within =
    let own : x ≡ get_or xs i x = is ∙ ap (λ (zs : List T). get_or zs i x) same in
    slice_get-get_or xs i x within ∙ ap Some (sym own)

-- all dimensions
pub own-all : (ds : List Stratum) (f : List ℕ) (i : ℕ) → IsFinding ds f → length f ≤ i → own_plans (take i ds) (take i f) ≡ own_plans ds f
own-all ds f i is past =
    let long = finding-long ds f is in
    ap (λ (x : List Stratum). own_plans x (take i f)) (take_all i ds (omega (arith, long, past))) ∙ ap (own_plans ds) (take_all i f past)

pub finer-all : (ds : List Stratum) (f : List ℕ) (i : ℕ) → IsFinding ds f → length f ≤ i → finer_plans (take i ds) (take i f) ≡ finer_plans ds f
finer-all ds f i is past =
    let long = finding-long ds f is in
    ap (λ (x : List Stratum). finer_plans x (take i f)) (take_all i ds (omega (arith, long, past))) ∙ ap (finer_plans ds) (take_all i f past)

pub texts-all : (ds : List Stratum) (f : List ℕ) (i : ℕ) → IsFinding ds f → length f ≤ i → predicate_texts (take i ds) (take i f) ≡ predicate_texts ds f
texts-all ds f i is past =
    let long = finding-long ds f is in
    ap (λ (x : List Stratum). predicate_texts x (take i f)) (take_all i ds (omega (arith, long, past))) ∙ ap (predicate_texts ds) (take_all i f past)

-- the numbers right below one, as they are read
pub numbers-read : (d : Stratum) (n : ℕ) (lists : List (List ℕ)) (list items : List ℕ) → lists ≡ d.below → list ≡ get_or lists n list → n < length d.below → items ≡ list → items ≡ numbers_below d n
numbers-read d n lists list items same is within read =
    read ∙ sym (get_or_from_slice_get d.below n list [] (read-at d.below lists n list same is within))

pub lower-within : (d : Stratum) (n : ℕ) (items : List ℕ) (i : ℕ) → IsNumberedBelow d → items ≡ numbers_below d n → i < length items → get_or items i 0 < length d.predicates
lower-within d n items i numbered same within =
    subst (λ (x : List ℕ). get_or x i 0 < length d.predicates) (sym same) (numbered.each n i 0 (subst (λ (x : List ℕ). i < length x) same within))
