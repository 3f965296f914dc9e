-- The first failing pair, and a list without one.
use Rattle.std.proofs.Common.{◌≡◌, ℕ, zero, suc, ◌+◌, ◌<◌, ◌≤◌, Bool, true, false, List, [], ◌∷◌, Some, length, get_or, inl, inr, refl, sym, ap, subst, ◌∙◌, arith}
use Rattle.std.specs.Prelude.{All, Contains, if◌then◌else◌, slice_get}
use Rattle.std.specs.Cmp.Lexicographic.{slice_cmp}
use Rattle.std.specs.List.Sorted.{IsStrictlySortedBy}
use Rattle.std.specs.Ordering.{nat_cmp}
use Rattle.std.proofs.lemmas.Bool.{cases_lt, le-ltb, lt-ltb}
use Rattle.std.proofs.lemmas.Cmp.{nat_list_cmp_total}
use Rattle.std.proofs.lemmas.List.{length-map}
use Rattle.std.proofs.lemmas.Map.Keys.{sorted_from_all_adjacent}
use Rattle.std.proofs.lemmas.Option.{slice_get-get_or, slice_get_within}
use Rattle.policy_model.specs.declared.request.Request.{Request}
use Rattle.policy_model.specs.declared.schema.Schema.{Schema}
use Rattle.policy_compile.specs.declared.outcome.Query.{Query}
use Rattle.strata.specs.declared.stratum.Strata.{Strata}
use Rattle.strata.specs.declared.stratum.Stratum.{Stratum}
use Rattle.findings.specs.declared.region.Region.{Region}
use Rattle.findings.specs.declared.standing.SummaryVerdict.{SummaryVerdict}
use Rattle.findings.specs.declared.standing.SummaryVerdict.TheVariants.{Stands, Fails}
use Rattle.findings.specs.Findings.{IsOwn, IsStrictlyFiner}
use Rattle.findings.specs.Judging.{FailsAlone, IsComparedWith, IsFirstAlone, IsFirstCompared, Rises, StandAlone, StandsAlone, DecidesAlone, DecidesOwn, verdict_at}
use Rattle.findings.specs.Queries.{AreMadeFor}
use Rattle.findings.specs.StandingSummaries.{HasFault, IsFailingPair, IsFirstFailing, IsSummaryVerdict, JudgesSummary, SummaryStands}
use Rattle.findings.specs.Summaries.{findings_of}
use Rattle.findings.proofs.Compared.{any-compared, compared-any, pair-of}

abbrev Pairs : Type 0
Pairs = List (List ℕ × Request)

-- a pair that is there
pub record HasPair (pairs : Pairs) (i : ℕ) : Type 0 where
  pub pair : List ℕ × Request
  pub at : slice_get pairs i ≡ Some pair

pub pair-at : (pairs : Pairs) (i : ℕ) → i < length pairs → HasPair pairs i
pair-at [] i within = absurd (omega (arith, within))
pair-at (p ∷ pairs) zero within = record { pair = p; at = refl }
pair-at (p ∷ pairs) (suc i) within =
    let rest = pair-at pairs i (omega (arith, within)) in
    record { pair = rest.pair; at = rest.at }

pub same-pair : (pairs : Pairs) (i : ℕ) (p q : List ℕ × Request) → slice_get pairs i ≡ Some p → slice_get pairs i ≡ Some q → p ≡ q
same-pair pairs i p q first second = cc

finding-read : (pairs : Pairs) (i : ℕ) (d : List ℕ) (p : List ℕ × Request) → slice_get pairs i ≡ Some p → get_or (findings_of pairs) i d ≡ p.0
finding-read [] i d p at = absurd (cc)
finding-read (q ∷ pairs) zero d p at = let same : q ≡ p = cc in ap (λ (x : List ℕ × Request). x.0) same
finding-read (q ∷ pairs) (suc i) d p at = finding-read pairs i d p at

verdict-fails : (first count : ℕ) → first < count → verdict_at first count ≡ Fails first
verdict-fails first count within = ap (λ (b : Bool). if b then Fails first else Stands) (lt-ltb first count within)

verdict-stands : (first count : ℕ) → count ≤ first → verdict_at first count ≡ Stands
verdict-stands first count past = ap (λ (b : Bool). if b then Fails first else Stands) (le-ltb first count past)

all-pairs : (P : List ℕ × Request → Type 0) (pairs : Pairs) → ((i : ℕ) (p : List ℕ × Request) → slice_get pairs i ≡ Some p → P p) → All P pairs
all-pairs P pairs each i d within = each i (get_or pairs i d) (slice_get-get_or pairs i d within)

module _ (schema : Schema) (base : Query) (strata : Strata) (pairs : Pairs) (region : Region) (made : AreMadeFor schema region base strata) where
  abbrev ds : List Stratum
  ds = strata.dimensions

  -- a pair that stands alone and isn't compared has no fault
  no-fault : (i : ℕ) (p : List ℕ × Request) → StandsAlone schema region ds pairs i p → ¬ IsComparedWith schema ds p.0 pairs → ¬ HasFault schema region ds pairs i p
  no-fault i p stands apart fault = elim fault [
    | inl foreign ↦ foreign stands.own
    | inr other ↦ elim other [
      | inl falls ↦ falls.falls (stands.rises falls.index falls.before falls.next falls.at)
      | inr compared ↦ apart (any-compared schema ds p.0 pairs compared)
    ]
  ]

  alone-fault : (i : ℕ) (p : List ℕ × Request) → FailsAlone schema region ds pairs i p → HasFault schema region ds pairs i p
  alone-fault i p (inl foreign) = inl foreign
  alone-fault i p (inr falls) = inr (inl falls)

  module _ (alone first : ℕ) (is_alone : IsFirstAlone schema base strata pairs alone) (is_first : IsFirstCompared strata pairs alone first) where
    apart-at : (i : ℕ) (p : List ℕ × Request) → i < first → slice_get pairs i ≡ Some p → ¬ IsComparedWith schema ds p.0 pairs
    apart-at i p less at = is_first.before schema base.tests made.are.each i p less at

    stands-at : (i : ℕ) (p : List ℕ × Request) → i < first → slice_get pairs i ≡ Some p → StandsAlone schema region ds pairs i p
    stands-at i p less at = let most = is_first.within in is_alone.before region i p made (omega (arith, less, most)) at

    no-failing : (i : ℕ) → i < first → ¬ IsFailingPair schema region ds pairs i
    no-failing i less fails = no-fault i fails.pair (stands-at i fails.pair less fails.at) (apart-at i fails.pair less fails.at) fails.fault

    -- where it is a pair, it is the first that fails
    pub first-fails : first < length pairs → IsFirstFailing schema region ds pairs first
    first-fails within = record { failing = record { pair = own.pair; at = own.at; fault = fault }; first = no-failing }
      where
        own : HasPair pairs first
        own = pair-at pairs first within

        fault : HasFault schema region ds pairs first own.pair
        fault = elim (cases_lt first alone) [
          | inl before ↦ inr (inr (compared-any schema ds own.pair.0 pairs (is_first.here schema base.tests made.are.each own.pair before own.at)))
          | inr past ↦ (
              let most = is_first.within in
              let same : alone ≡ first = omega (arith, past, most) in
              let here : slice_get pairs alone ≡ Some own.pair = subst (λ (k : ℕ). slice_get pairs k ≡ Some own.pair) (sym same) own.at in
              alone-fault first own.pair (subst (λ (k : ℕ). FailsAlone schema region ds pairs k own.pair) same (is_alone.here region own.pair made here)))
        ]

    -- where there is no such pair, the list stands
    pub all-stand : first ≡ length pairs → SummaryStands schema region ds pairs
    all-stand whole = record { rise = rise; own = own; flat = flat }
      where
        stands : (i : ℕ) (p : List ℕ × Request) → slice_get pairs i ≡ Some p → StandsAlone schema region ds pairs i p
        stands i p at = let within = slice_get_within pairs i p at in stands-at i p (omega (arith, within, whole)) at

        own : All (λ p. IsOwn schema region ds p.0 p.1) pairs
        own = all-pairs (λ p. IsOwn schema region ds p.0 p.1) pairs (λ i p at. (stands i p at).own)

        rise : IsStrictlySortedBy (slice_cmp nat_cmp) (findings_of pairs)
        rise = sorted_from_all_adjacent nat_list_cmp_total (findings_of pairs) [] (λ k within. (
            let count = length-map pairs (λ (p : List ℕ × Request). p.0) in
            let p = pair-at pairs k (omega (arith, within, count)) in
            let q = pair-at pairs (k + 1) (omega (arith, within, count)) in
            let less = (stands (k + 1) q.pair q.at).rises k p.pair refl p.at in
            ap (λ (x : List ℕ). slice_cmp nat_cmp x (get_or (findings_of pairs) (k + 1) [])) (finding-read pairs k [] p.pair p.at) ∙ ap (slice_cmp nat_cmp p.pair.0) (finding-read pairs (k + 1) [] q.pair q.at) ∙ less))

        flat : (f g : List ℕ) → Contains (findings_of pairs) f → Contains (findings_of pairs) g → ¬ IsStrictlyFiner schema ds f g
        flat f g in_f in_g finer =
            let p = pair-of pairs in_f.0 f in_f.1 in_f.2 in
            let q = pair-of pairs in_g.0 g in_g.1 in_g.2 in
            let within = slice_get_within pairs p.index p.pair p.at in
            apart-at p.index p.pair (omega (arith, within, whole)) p.at (record {
              index = q.index;
              other = q.pair;
              at = q.at;
              compared = inl (subst (λ (x : List ℕ). IsStrictlyFiner schema ds x q.pair.0) (sym p.is) (subst (IsStrictlyFiner schema ds f) (sym q.is) finer));
            })

    -- the verdict
    pub judged : IsSummaryVerdict schema region ds pairs (verdict_at first (length pairs))
    judged = elim (cases_lt first (length pairs)) [
      | inl within ↦ subst (IsSummaryVerdict schema region ds pairs) (sym (verdict-fails first (length pairs) within)) (first-fails within)
      | inr past ↦ (
          let most = is_first.within in
          let all = is_alone.within in
          let whole : first ≡ length pairs = omega (arith, most, all, past) in
          subst (IsSummaryVerdict schema region ds pairs) (sym (verdict-stands first (length pairs) past)) (all-stand whole))
    ]

-- ---- pairs alone

pub rises-first : (pairs : Pairs) (i : ℕ) → i ≡ 0 → Rises pairs i true
rises-first pairs i zero_ p at j q next there = absurd (omega (arith, zero_, next))

module _ (schema : Schema) (base : Query) (strata : Strata) (pairs : Pairs) (i : ℕ) where
  pub alone-falls : (b : Bool) → b ≡ false → Rises pairs i b → DecidesAlone schema base strata pairs i false
  alone-falls true e told region p made at = absurd (cc)
  alone-falls false e told region p made at = inr (told p at)

  pub alone-own : (b own : Bool) (here there : List ℕ × Request) → b ≡ true → Rises pairs i b → slice_get pairs i ≡ Some here → slice_get pairs i ≡ Some there → DecidesOwn schema base strata here.0 there.1 own → DecidesAlone schema base strata pairs i own
  alone-own false own here there e told at again is = absurd (cc)
  alone-own true true here there e told at again is = λ region p made found.
      let first = same-pair pairs i here p at found in
      let second = same-pair pairs i there p again found in
      let own : IsOwn schema region strata.dimensions here.0 there.1 = (is region made).0 refl in
      record {
        own = subst (λ (x : List ℕ × Request). IsOwn schema region strata.dimensions p.0 x.1) second (subst (λ (x : List ℕ × Request). IsOwn schema region strata.dimensions x.0 there.1) first own);
        rises = told p found;
      }
  alone-own true false here there e told at again is = λ region p made found.
      let first = same-pair pairs i p here found at in
      let second = same-pair pairs i p there found again in
      inl (λ own. (
      let same = subst (λ (x : List ℕ × Request). IsOwn schema region strata.dimensions here.0 x.1) second (subst (λ (x : List ℕ × Request). IsOwn schema region strata.dimensions x.0 p.1) first own) in
      let bad : false ≡ true = (is region made).1 same in
      absurd (cc)))

  pub alone-here : (b : Bool) → i < length pairs → StandAlone schema base strata pairs i → DecidesAlone schema base strata pairs i b → b ≡ false → IsFirstAlone schema base strata pairs i
  alone-here true less before told e = absurd (cc)
  alone-here false less before told e = record { within = omega (arith, less); before = before; here = λ region p made at. told region p made at }

  pub alone-next : (b : Bool) → StandAlone schema base strata pairs i → DecidesAlone schema base strata pairs i b → b ≡ true → StandAlone schema base strata pairs (i + 1)
  alone-next false before told e = absurd (cc)
  alone-next true before told e = λ region j p made less at. elim (cases_lt j i) [
    | inl lower ↦ before region j p made lower at
    | inr upper ↦ (
        let same : j ≡ i = omega (arith, less, upper) in
        let here : slice_get pairs i ≡ Some p = subst (λ (k : ℕ). slice_get pairs k ≡ Some p) same at in
        subst (λ (k : ℕ). StandsAlone schema region strata.dimensions pairs k p) (sym same) (told region p made here))
  ]

  pub alone-all : length pairs ≤ i → i ≤ length pairs → StandAlone schema base strata pairs i → IsFirstAlone schema base strata pairs (length pairs)
  alone-all past most before = record {
    within = omega arith;
    before = λ region j p made less at. before region j p made (omega (arith, less, past)) at;
    here = λ region p made at. (let within = slice_get_within pairs (length pairs) p at in absurd (omega (arith, within)));
  }

-- ---- the verdict

pub judged-as : (schema : Schema) (base : Query) (strata : Strata) (pairs : Pairs) (alone first : ℕ) (verdict : SummaryVerdict) → IsFirstAlone schema base strata pairs alone → IsFirstCompared strata pairs alone first → verdict ≡ verdict_at first (length pairs) → JudgesSummary schema base strata pairs verdict
judged-as schema base strata pairs alone first verdict is_alone is_first is region made =
    subst (IsSummaryVerdict schema region strata.dimensions pairs) (sym is) (judged schema base strata pairs region made alone first is_alone is_first)
