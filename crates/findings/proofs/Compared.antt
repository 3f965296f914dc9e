-- Which findings are comparable, number by number and pair by pair.
use Rattle.std.proofs.Common.{◌≡◌, ◌≢◌, ◌↔◌, ℕ, zero, suc, ◌+◌, ◌<◌, ◌≤◌, Bool, true, false, List, [], ◌∷◌, Some, length, get_or, inl, inr, refl, sym, ap, subst, ◌∙◌, arith, nat_eq}
use Rattle.std.specs.Prelude.{All, Any, IsTrue, slice_get}
use Rattle.std.specs.Cmp.Lexicographic.{pointwise, pointwise_decides, slice_cmp}
use Rattle.std.specs.Ordering.{is_lt, nat_cmp}
use Rattle.std.specs.declared.cmp.Ordering.{Ordering}
use Rattle.std.specs.declared.cmp.Ordering.TheVariants.{Less, Equal, Greater}
use Rattle.std.proofs.lemmas.Bool.{cases_lt}
use Rattle.std.proofs.lemmas.Bool.Decides.{Decides-eqb}
use Rattle.std.proofs.lemmas.List.Elements.{All-head, All-tail}
use Rattle.std.proofs.lemmas.Option.{get_or_from_slice_get, slice_get_within}
use Rattle.policy_model.specs.declared.request.Request.{Request}
use Rattle.policy_model.specs.declared.schema.Schema.{Schema}
use Rattle.policy_model.specs.declared.test.Test.{Test}
use Rattle.policy_model.proofs.Laws.{Any-here, Any-later}
use Rattle.strata.specs.declared.stratum.Strata.{Strata}
use Rattle.strata.specs.declared.stratum.Stratum.{Stratum}
use Rattle.strata.specs.Covers.{IsBelowAt}
use Rattle.strata.specs.Strata.{AnswersOrderOf, IsStratum}
use Rattle.findings.specs.Findings.{IsFiner, IsFinding}
use Rattle.findings.specs.Judging.{DecidesComparable, DecidesComparedBehind, DecidesFiner, IsApartBetween, IsComparedWith, IsFirstCompared, EachOrder}
use Rattle.findings.specs.StandingSummaries.{AreComparable}
use Rattle.findings.specs.Steps.{predicate_number_at}
use Rattle.findings.specs.Summaries.{findings_of}
use Rattle.findings.proofs.Stepping.{number-within}

abbrev Pairs : Type 0
Pairs = List (List ℕ × Request)

-- ---- the order of numbers

pub less-is : (o : Ordering) (b : Bool) → b ≡ is_lt o → (IsTrue b ↔ (o ≡ Less))
less-is Less b is = (λ e. refl, λ e. is)
less-is Equal b is = (λ e. absurd (cc), λ e. absurd (cc))
less-is Greater b is = (λ e. absurd (cc), λ e. absurd (cc))

pub before-is : (f g a b : List ℕ) (o : Ordering) (r : Bool) → a ≡ f → b ≡ g → o ≡ slice_cmp nat_cmp a b → r ≡ is_lt o → (IsTrue r ↔ (slice_cmp nat_cmp f g ≡ Less))
before-is f g a b o r first second compares is =
    let same : o ≡ slice_cmp nat_cmp f g = compares ∙ ap (λ (x : List ℕ). slice_cmp nat_cmp x b) first ∙ ap (slice_cmp nat_cmp f) second in
    subst (λ (x : Ordering). IsTrue r ↔ (x ≡ Less)) same (less-is o r is)

-- ---- finer, number by number

pub finer-by : (schema : Schema) (ds : List Stratum) (f g : List ℕ) → IsFinding ds f → IsFinding ds g → ((j : ℕ) (d : Stratum) → j < length f → slice_get ds j ≡ Some d → IsBelowAt schema d.slot d.predicates (predicate_number_at f j) (predicate_number_at g j)) → IsFiner schema ds f g
finer-by schema [] f g is_f is_g each = tt
finer-by schema (d ∷ ds) [] g is_f is_g each = tt
finer-by schema (d ∷ ds) (n ∷ f) [] is_f is_g each = tt
finer-by schema (d ∷ ds) (n ∷ f) (m ∷ g) is_f is_g each = (each 0 d (omega arith) refl, finer-by schema ds f g is_f.1 is_g.1 (λ j e less at. each (suc j) e (omega (arith, less)) at))

pub finer-read : (schema : Schema) (ds : List Stratum) (f g : List ℕ) → IsFinding ds f → IsFinding ds g → IsFiner schema ds f g → (j : ℕ) (d : Stratum) → slice_get ds j ≡ Some d → IsBelowAt schema d.slot d.predicates (predicate_number_at f j) (predicate_number_at g j)
finer-read schema [] f g is_f is_g finer j d at = absurd (cc)
finer-read schema (e ∷ ds) [] g is_f is_g finer j d at = absurd is_f
finer-read schema (e ∷ ds) (n ∷ f) [] is_f is_g finer j d at = absurd is_g
finer-read schema (e ∷ ds) (n ∷ f) (m ∷ g) is_f is_g finer zero d at = let same : e ≡ d = cc in subst (λ (x : Stratum). IsBelowAt schema x.slot x.predicates n m) same finer.0
finer-read schema (e ∷ ds) (n ∷ f) (m ∷ g) is_f is_g finer (suc j) d at = finer-read schema ds f g is_f.1 is_g.1 finer.1 j d at

-- a dimension of strata
pub stratum-at : (schema : Schema) (tests : List Test) (ds : List Stratum) (j : ℕ) (d : Stratum) → All (IsStratum schema tests) ds → slice_get ds j ≡ Some d → IsStratum schema tests d
stratum-at schema tests ds j d are at = subst (IsStratum schema tests) (get_or_from_slice_get ds j d d at) (are j d (slice_get_within ds j d at))

-- what is answered on the numbers of two findings in a dimension
pub below-told : (schema : Schema) (tests : List Test) (ds : List Stratum) (f g : List ℕ) (j n m : ℕ) (d : Stratum) (b : Bool) → All (IsStratum schema tests) ds → IsFinding ds f → IsFinding ds g → slice_get ds j ≡ Some d →
    n ≡ predicate_number_at f j → m ≡ predicate_number_at g j → AnswersOrderOf d n m b → (IsTrue b ↔ IsBelowAt schema d.slot d.predicates (predicate_number_at f j) (predicate_number_at g j))
below-told schema tests ds f g j n m d b are is_f is_g at own other told =
    let numbers = subst (λ (x : ℕ). AnswersOrderOf d (predicate_number_at f j) x b) other (subst (λ (x : ℕ). AnswersOrderOf d x m b) own told) in
    let says = numbers schema tests (stratum-at schema tests ds j d are at) in (
      λ e. (says.0 e).below,
      λ below. says.1 (record { lower = number-within ds f is_f j d at; upper = number-within ds g is_g j d at; below = below }),
    )

-- ---- comparable

pub comparable-equal : (strata : Strata) (f g : List ℕ) (b : Bool) → b ≡ pointwise nat_eq f g → b ≡ true → DecidesComparable strata f g false
comparable-equal strata f g b is equal schema tests are =
    let same : f ≡ g = (pointwise_decides Decides-eqb f g).0 (sym is ∙ equal) in (
      λ e. absurd (cc),
      λ compared. elim compared [ inl finer ↦ absurd (finer.1 same) | inr above ↦ absurd (above.1 (sym same)) ],
    )

differ-told : (f g : List ℕ) (b : Bool) → b ≡ pointwise nat_eq f g → b ≡ false → f ≢ g
differ-told f g b is unequal same = let yes_ : pointwise nat_eq f g ≡ true = (pointwise_decides Decides-eqb f g).1 same in absurd (cc)

module _ (strata : Strata) (f g : List ℕ) (b finer : Bool) (is : b ≡ pointwise nat_eq f g) (unequal : b ≡ false) (told : DecidesFiner strata f g finer) where
  pub comparable-finer : finer ≡ true → DecidesComparable strata f g true
  comparable-finer holds schema tests are = (λ e. inl ((told schema tests are).0 holds, differ-told f g b is unequal), λ compared. refl)

  pub comparable-above : finer ≡ false → (up : Bool) → DecidesFiner strata g f up → DecidesComparable strata f g up
  comparable-above fails up upper schema tests are = (
    λ e. inr ((upper schema tests are).0 e, λ same. differ-told f g b is unequal (sym same)),
    λ compared. elim compared [
      | inl lower ↦ (let bad : finer ≡ true = (told schema tests are).1 lower.0 in absurd (cc))
      | inr above ↦ (upper schema tests are).1 above.0
    ],
  )

-- ---- pairs

pub finding-of : (P : List ℕ → Type 0) (pairs : Pairs) (i : ℕ) (p : List ℕ × Request) → All P (findings_of pairs) → slice_get pairs i ≡ Some p → P p.0
finding-of P [] i p all at = absurd (cc)
finding-of P (q ∷ pairs) zero p all at = let same : q ≡ p = cc in subst (λ (x : List ℕ × Request). P x.0) same (All-head P q.0 (findings_of pairs) all)
finding-of P (q ∷ pairs) (suc i) p all at = finding-of P pairs i p (All-tail P q.0 (findings_of pairs) all) at

-- some finding of the pairs is compared
pub compared-any : (schema : Schema) (ds : List Stratum) (f : List ℕ) (pairs : Pairs) → IsComparedWith schema ds f pairs → Any (AreComparable schema ds f) (findings_of pairs)
compared-any schema ds f pairs has = found pairs has.index has.other has.at has.compared
  where
    found : (xs : Pairs) (i : ℕ) (p : List ℕ × Request) → slice_get xs i ≡ Some p → AreComparable schema ds f p.0 → Any (AreComparable schema ds f) (findings_of xs)
    found [] i p at compared = absurd (cc)
    found (q ∷ xs) zero p at compared = let same : p ≡ q = cc in Any-here (AreComparable schema ds f) q.0 (findings_of xs) (subst (λ (x : List ℕ × Request). AreComparable schema ds f x.0) same compared)
    found (q ∷ xs) (suc i) p at compared = Any-later (AreComparable schema ds f) q.0 (findings_of xs) (found xs i p at compared)

-- the pair of a finding
pub record IsPairOf (pairs : Pairs) (f : List ℕ) : Type 0 where
  pub index : ℕ
  pub pair : List ℕ × Request
  pub at : slice_get pairs index ≡ Some pair
  pub is : pair.0 ≡ f

pub pair-of : (pairs : Pairs) (i : ℕ) (f : List ℕ) → i < length (findings_of pairs) → get_or (findings_of pairs) i f ≡ f → IsPairOf pairs f
pair-of [] i f within is = absurd (omega (arith, within))
pair-of (q ∷ pairs) zero f within is = record { index = 0; pair = q; at = refl; is = is }
pair-of (q ∷ pairs) (suc i) f within is =
    let rest = pair-of pairs i f (omega (arith, within)) is in
    record { index = suc rest.index; pair = rest.pair; at = rest.at; is = rest.is }

pub any-compared : (schema : Schema) (ds : List Stratum) (f : List ℕ) (pairs : Pairs) → Any (AreComparable schema ds f) (findings_of pairs) → IsComparedWith schema ds f pairs
any-compared schema ds f pairs some =
    let pair = pair-of pairs some.0 some.1 some.2 some.3 in
    record { index = pair.index; other = pair.pair; at = pair.at; compared = subst (AreComparable schema ds f) (sym pair.is) some.4 }

-- ---- a pair that is compared with those behind it

pub same-at : (pairs : Pairs) (i : ℕ) (p q : List ℕ × Request) → slice_get pairs i ≡ Some p → slice_get pairs i ≡ Some q → p ≡ q
same-at pairs i p q first second = cc

module _ (strata : Strata) (pairs : Pairs) (i : ℕ) (own : List ℕ × Request) (here : slice_get pairs i ≡ Some own) where
  -- none of those behind it and before index n is comparable to it
  abbrev pub ApartBefore : ℕ → Type 0
  ApartBefore n = EachOrder strata (λ schema. IsApartBetween schema strata.dimensions own.0 pairs i n)

  pub compared-behind : (j : ℕ) (p : List ℕ × Request) (b : Bool) → slice_get pairs j ≡ Some p → DecidesComparable strata own.0 p.0 b → b ≡ true → DecidesComparedBehind strata pairs i true
  compared-behind j p b at told holds schema tests are q there =
      let same = same-at pairs i own q here there in
      record { index = j; other = p; at = at; compared = subst (λ (x : List ℕ × Request). AreComparable schema strata.dimensions x.0 p.0) same ((told schema tests are).0 holds) }

  pub apart-next : (j : ℕ) (p : List ℕ × Request) (b : Bool) → slice_get pairs j ≡ Some p → DecidesComparable strata own.0 p.0 b → b ≡ false → ApartBefore j → ApartBefore (j + 1)
  apart-next j p b at told fails before schema tests are k q behind less there compared = elim (cases_lt k j) [
    | inl lower ↦ before schema tests are k q behind lower there compared
    | inr upper ↦ (
        let index : k ≡ j = omega (arith, less, upper) in
        let same = same-at pairs j q p (subst (λ (m : ℕ). slice_get pairs m ≡ Some q) index there) at in
        let bad : b ≡ true = (told schema tests are).1 (subst (λ (x : List ℕ × Request). AreComparable schema strata.dimensions own.0 x.0) same compared) in
        absurd (cc))
  ]

  pub apart-behind : (n : ℕ) → length pairs ≤ n → ApartBefore n → DecidesComparedBehind strata pairs i false
  apart-behind n past before schema tests are p at j q behind less there compared =
      let same = same-at pairs i p own at here in
      before schema tests are j q behind (omega (arith, less, past)) there (subst (λ (x : List ℕ × Request). AreComparable schema strata.dimensions x.0 q.0) same compared)

-- ---- the first pair that is compared with another one

-- none of the first n pairs is comparable to one behind it
abbrev pub ApartBehind : Strata → Pairs → ℕ → Type 0
ApartBehind strata pairs n = EachOrder strata (λ schema. (i j : ℕ) (p q : List ℕ × Request) → i < n → i < j → slice_get pairs i ≡ Some p → slice_get pairs j ≡ Some q → ¬ AreComparable schema strata.dimensions p.0 q.0)

other-side : (schema : Schema) (ds : List Stratum) (f g : List ℕ) → AreComparable schema ds f g → AreComparable schema ds g f
other-side schema ds f g (inl finer) = inr finer
other-side schema ds f g (inr above) = inl above

itself-apart : (schema : Schema) (ds : List Stratum) (f : List ℕ) → ¬ AreComparable schema ds f f
itself-apart schema ds f (inl finer) = finer.1 refl
itself-apart schema ds f (inr above) = above.1 refl

module _ (strata : Strata) (pairs : Pairs) (n : ℕ) (before : ApartBehind strata pairs n) where
  -- nor to any other
  none-compared : (schema : Schema) (tests : List Test) → All (IsStratum schema tests) strata.dimensions → (i : ℕ) (p : List ℕ × Request) → i < n → slice_get pairs i ≡ Some p → ¬ IsComparedWith schema strata.dimensions p.0 pairs
  none-compared schema tests are i p less at has = elim (cases_lt i has.index) [
    | inl behind ↦ before schema tests are i has.index p has.other less behind at has.at has.compared
    | inr upto ↦ elim (cases_lt has.index i) [
      | inl ahead ↦ before schema tests are has.index i has.other p (omega (arith, less, ahead)) ahead has.at at (other-side schema strata.dimensions p.0 has.other.0 has.compared)
      | inr from ↦ (
          let index : has.index ≡ i = omega (arith, upto, from) in
          let same = same-at pairs i has.other p (subst (λ (k : ℕ). slice_get pairs k ≡ Some has.other) index has.at) at in
          itself-apart schema strata.dimensions p.0 (subst (λ (x : List ℕ × Request). AreComparable schema strata.dimensions p.0 x.0) same has.compared))
    ]
  ]

  pub first-here : (most : ℕ) (b : Bool) → n < most → DecidesComparedBehind strata pairs n b → b ≡ true → IsFirstCompared strata pairs most n
  first-here most false less told holds = absurd (cc)
  first-here most true less told holds = record {
    within = omega (arith, less);
    before = none-compared;
    here = λ schema tests are p within at. told schema tests are p at;
  }

  pub first-later : (b : Bool) → DecidesComparedBehind strata pairs n b → b ≡ false → ApartBehind strata pairs (n + 1)
  first-later true told fails = absurd (cc)
  first-later false told fails = λ schema tests are i j p q less behind at there compared. elim (cases_lt i n) [
    | inl lower ↦ before schema tests are i j p q lower behind at there compared
    | inr upper ↦ (
        let index : i ≡ n = omega (arith, less, upper) in
        let own = subst (λ (k : ℕ). slice_get pairs k ≡ Some p) index at in
        told schema tests are p own j q (omega (arith, index, behind)) (slice_get_within pairs j q there) there compared)
  ]

  pub first-none : (most : ℕ) → most ≤ n → IsFirstCompared strata pairs most most
  first-none most past = record {
    within = omega arith;
    before = λ schema tests are i p less. none-compared schema tests are i p (omega (arith, less, past));
    here = λ schema tests are p less. absurd (omega (arith, less));
  }
