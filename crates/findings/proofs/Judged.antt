-- Summaries stand for their sets, and a list has one verdict.
use Rattle.std.proofs.Common.{◌≡◌, ℕ, zero, suc, List, [], ◌∷◌, Some, get_or, inl, inr, refl, sym, ap, subst, ◌∙◌, arith}
use Rattle.std.specs.Prelude.{All, Contains, slice_get}
use Rattle.std.specs.Cmp.Lexicographic.{slice_cmp}
use Rattle.std.specs.Ordering.{nat_cmp}
use Rattle.std.proofs.lemmas.Bool.{cases_eq, cases_lt}
use Rattle.std.proofs.lemmas.List.{length-map}
use Rattle.std.proofs.lemmas.Map.Keys.{Less-from_sorted}
use Rattle.std.proofs.lemmas.Option.{get_or_from_slice_get, slice_get_within}
use Rattle.policy_model.specs.declared.request.Request.{Request}
use Rattle.policy_model.specs.declared.schema.Schema.{Schema}
use Rattle.strata.specs.declared.stratum.Stratum.{Stratum}
use Rattle.findings.specs.declared.region.Region.{Region}
use Rattle.findings.specs.declared.standing.SummaryVerdict.TheVariants.{Stands, Fails}
use Rattle.findings.specs.CoverLaws.{SummariesStand, SummaryVerdictsAreEqual}
use Rattle.findings.specs.Findings.{IsOwn}
use Rattle.findings.specs.StandingSummaries.{IsFailingPair, SummaryStands}
use Rattle.findings.specs.Summaries.{findings_of}
use Rattle.findings.proofs.Covering.{summaries-flat}

pub summaries-stand : SummariesStand
summaries-stand schema region strata summary has = record {
  rise = has.is.order;
  own = has.is.own;
  flat = summaries-flat schema region strata summary has;
}

-- ---- one verdict

abbrev Pairs : Type 0
Pairs = List (List ℕ × Request)

-- the finding of the pair of an index is among the findings
pub finding-in : (pairs : Pairs) (i : ℕ) (p : List ℕ × Request) → slice_get pairs i ≡ Some p → Contains (findings_of pairs) p.0
finding-in [] i p at = absurd (cc)
finding-in (q ∷ pairs) zero p at = let same : q ≡ p = cc in (0, omega arith, ap (λ (x : List ℕ × Request). x.0) same)
finding-in (q ∷ pairs) (suc i) p at = let rest = finding-in pairs i p at in (suc rest.0, omega (arith, rest.1), rest.2)

own-at : (schema : Schema) (region : Region) (ds : List Stratum) (pairs : Pairs) (i : ℕ) (p : List ℕ × Request) → All (λ x. IsOwn schema region ds x.0 x.1) pairs → slice_get pairs i ≡ Some p → IsOwn schema region ds p.0 p.1
own-at schema region ds pairs i p all at = subst (λ (x : List ℕ × Request). IsOwn schema region ds x.0 x.1) (get_or_from_slice_get pairs i p p at) (all i p (slice_get_within pairs i p at))

finding-read : (pairs : Pairs) (i : ℕ) (d : List ℕ) (p : List ℕ × Request) → slice_get pairs i ≡ Some p → get_or (findings_of pairs) i d ≡ p.0
finding-read [] i d p at = absurd (cc)
finding-read (q ∷ pairs) zero d p at = let same : q ≡ p = cc in ap (λ (x : List ℕ × Request). x.0) same
finding-read (q ∷ pairs) (suc i) d p at = finding-read pairs i d p at

-- a list that stands has no failing pair
pub standing-fails-nowhere : (schema : Schema) (region : Region) (ds : List Stratum) (pairs : Pairs) (i : ℕ) → SummaryStands schema region ds pairs → IsFailingPair schema region ds pairs i → ⊥
standing-fails-nowhere schema region ds pairs i stands fails = elim fails.fault [
  | inl foreign ↦ foreign (own-at schema region ds pairs i fails.pair stands.own fails.at)
  | inr other ↦ elim other [
    | inl falls ↦ (
        let within = slice_get_within pairs i fails.pair fails.at in
        let count = length-map pairs (λ (p : List ℕ × Request). p.0) in
        let less = Less-from_sorted (slice_cmp nat_cmp) (findings_of pairs) falls.index i [] stands.rise (omega (arith, falls.next)) (omega (arith, within, count)) in
        let first = finding-read pairs falls.index [] falls.before falls.at in
        let second = finding-read pairs i [] fails.pair fails.at in
        falls.falls (ap (λ (x : List ℕ). slice_cmp nat_cmp x fails.pair.0) (sym first) ∙ ap (slice_cmp nat_cmp (get_or (findings_of pairs) falls.index [])) (sym second) ∙ less))
    | inr compared ↦ (
        let own = finding-in pairs i fails.pair fails.at in
        let there : Contains (findings_of pairs) compared.1 = (compared.0, compared.2, compared.3) in
        elim compared.4 [
          | inl finer ↦ stands.flat fails.pair.0 compared.1 own there finer
          | inr above ↦ stands.flat compared.1 fails.pair.0 there own above
        ])
  ]
]

pub verdicts-equal : SummaryVerdictsAreEqual
verdicts-equal schema region strata pairs Stands Stands one other = refl
verdicts-equal schema region strata pairs Stands (Fails n) one other = absurd (standing-fails-nowhere schema region strata.dimensions pairs n one other.failing)
verdicts-equal schema region strata pairs (Fails m) Stands one other = absurd (standing-fails-nowhere schema region strata.dimensions pairs m other one.failing)
verdicts-equal schema region strata pairs (Fails m) (Fails n) one other = elim (cases_lt m n) [
  | inl lower ↦ absurd (other.first m lower one.failing)
  | inr upper ↦ elim (cases_eq m n) [
    | inl same ↦ ap Fails same
    | inr differ ↦ absurd (one.first n (omega (arith, upper, differ)) other.failing)
  ]
]
