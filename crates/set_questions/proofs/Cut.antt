-- What is left of claims where denied nodes fail.
use Rattle.std.proofs.Common.{◌≡◌, ◌↔◌, ◌+◌, ◌<◌, ◌≤◌, ◌++◌, ◌∷◌, [], ℕ, zero, suc, Bool, true, false, All, List, length, get_or, take, IsTrue, refl, ap, sym, ◌∙◌, subst, arith}
use Rattle.std.proofs.lemmas.Grind.{take_at_read}
use Rattle.std.proofs.lemmas.List.{length-append, take_all}
use Rattle.std.proofs.lemmas.List.Elements.{All-cons, All-head, All-nil, All-push, All-tail}
use Rattle.std.proofs.lemmas.Option.{slice_get_within}
use Rattle.formula_tree.specs.Trees.{Tree}
use Rattle.formula_nodes.specs.Claims.{AreClaimsOf, Grows, IsClaimOf, IsClaimOfEach, as_claimed, claim_holds, turned_claim}
use Rattle.formula_nodes.specs.declared.claim.Claim.{Claim}
use Rattle.formula_nodes.proofs.Laws.{had-values, keep-values, keeps-value, stay-claims, stays-claim}
use Rattle.test_relations.specs.Relations.{SchemaTests}
use Rattle.set_questions.specs.Cutting.{AreLeftOf, IsConjunctionAt, IsLeftOf, node_claim}
use Rattle.set_questions.specs.Excluding.{AreDenied, DeniedFail, IsTrueThere}
use Rattle.set_questions.proofs.Excluded.{denied-fail}
use Rattle.set_questions.proofs.UseClaims.{AgreeBeside, all-joined, turned-false}

-- ---- more trees

pub no-fewer : (old new : List Tree) (n : ℕ) → Grows old new → n ≤ length old → n ≤ length new
no-fewer old new n grows count = omega (arith, count, ap (λ (ts : List Tree). length ts) grows.is, length-append old grows.rest)

fail-before : (old new : List Tree) (denied : List Bool) (answers : ℕ → Bool) → Grows old new → length denied ≤ length old → DeniedFail answers new denied → DeniedFail answers old denied
fail-before old new denied answers grows count fail n at =
    let here : n < length old = omega (arith, count, slice_get_within denied n true at) in
    sym (keeps-value old new (record { node = n; holds = false }) answers grows here) ∙ fail n at

fail-later : (old new : List Tree) (denied : List Bool) (answers : ℕ → Bool) → Grows old new → length denied ≤ length old → DeniedFail answers old denied → DeniedFail answers new denied
fail-later old new denied answers grows count fail n at =
    let here : n < length old = omega (arith, count, slice_get_within denied n true at) in
    keeps-value old new (record { node = n; holds = false }) answers grows here ∙ fail n at

front-there : (trees : List Tree) (i : ℕ) (cs : List Claim) → AreClaimsOf trees cs → AreClaimsOf trees (take i cs)
front-there trees zero [] there = there
front-there trees (suc i) [] there = there
front-there trees zero (c ∷ cs) there = All-nil (IsClaimOf trees)
front-there trees (suc i) (c ∷ cs) there = All-cons (IsClaimOf trees) c (take i cs) (All-head (IsClaimOf trees) c cs there) (front-there trees i cs (All-tail (IsClaimOf trees) c cs there))

left-later : (old new : List Tree) (denied : List Bool) (claims left : List Claim) → Grows old new → length denied ≤ length old → AreClaimsOf old claims → AreLeftOf old denied claims left → AreLeftOf new denied claims left
left-later old new denied claims left grows count there are = (
  stay-claims old new left grows are.0,
  λ answers fail.
      (let both = are.1 answers (fail-before old new denied answers grows count fail) in (
        λ each. keep-values old new left answers grows are.0 (both.0 (had-values old new claims answers grows there each)),
        λ each. keep-values old new claims answers grows there (both.1 (had-values old new left answers grows are.0 each)),
      )),
)

-- ---- one more

module _ (trees : List Tree) (denied : List Bool) (claims : List Claim) (i : ℕ) (d : Claim) (left : List Claim) (within : i < length claims) (are : AreLeftOf trees denied (take i claims) left) where
  step : take (i + 1) claims ≡ take i claims ++ get_or claims i d ∷ []
  step = (take_at_read claims i d within).1

  more : (less : Claim) (longer : List Claim) → IsLeftOf trees denied (get_or claims i d) less → longer ≡ left ++ less ∷ [] → AreLeftOf trees denied (take (i + 1) claims) longer
  more less longer is longer_is = (
    subst (AreClaimsOf trees) (sym longer_is) (All-push (IsClaimOf trees) left less are.0 is.0),
    λ answers fail.
        (let P = λ (x : Claim). IsTrue (claim_holds answers trees x) in
        let c = get_or claims i d in
        let both = are.1 answers fail in
        let same = is.1 answers fail in
        let front = all-joined P (take i claims) (c ∷ []) in
        let back = all-joined P left (less ∷ []) in (
          λ each. (let parts = front.0 (subst (All P) step each) in
              subst (All P) (sym longer_is) (back.1 (both.0 parts.0, All-cons P less [] (sym same ∙ All-head P c [] parts.1) (All-nil P)))),
          λ each. (let parts = back.0 (subst (All P) longer_is each) in
              subst (All P) (sym step) (front.1 (both.1 parts.0, All-cons P c [] (same ∙ All-head P less [] parts.1) (All-nil P)))),
        )),
  )

  pub left-same : IsTrueThere trees denied (get_or claims i d) → AreLeftOf trees denied (take (i + 1) claims) left
  left-same known = (
    are.0,
    λ answers fail.
        (let P = λ (x : Claim). IsTrue (claim_holds answers trees x) in
        let c = get_or claims i d in
        let both = are.1 answers fail in
        let front = all-joined P (take i claims) (c ∷ []) in (
          λ each. both.0 (front.0 (subst (All P) step each)).0,
          λ each. subst (All P) (sym step) (front.1 (both.1 each, All-cons P c [] (known answers fail) (All-nil P))),
        )),
  )

pub left-more : (first old new : List Tree) (denied : List Bool) (claims left longer : List Claim) (i : ℕ) (d less : Claim) → Grows first old → Grows old new → length denied ≤ length first → AreClaimsOf first claims → i < length claims →
    AreLeftOf old denied (take i claims) left → IsLeftOf new denied (get_or claims i d) less → longer ≡ left ++ less ∷ [] → AreLeftOf new denied (take (i + 1) claims) longer
left-more first old new denied claims left longer i d less before grows count there within are is =
    more new denied claims i d left within
    (left-later old new denied (take i claims) left grows (no-fewer first old (length denied) before count) (front-there old i claims (stay-claims first old claims before there)) are) less longer is

pub left-all : (trees : List Tree) (denied : List Bool) (claims left : List Claim) (i : ℕ) → length claims ≤ i → AreLeftOf trees denied (take i claims) left → AreLeftOf trees denied claims left
left-all trees denied claims left i past are = subst (λ (cs : List Claim). AreLeftOf trees denied cs left) (take_all i claims past) are

-- ---- a conjunction

same-value : (a b : Bool) → (IsTrue a ↔ IsTrue b) → a ≡ b
same-value true b both = sym (both.0 refl)
same-value false true both = both.1 refl
same-value false false both = refl

turned-value : (answers : ℕ → Bool) (trees : List Tree) (b : Bool) (c : Claim) → claim_holds answers trees (turned_claim b c) ≡ as_claimed b (claim_holds answers trees c)
turned-value answers trees true c = refl
turned-value answers trees false c = turned-false answers trees c

turned-there : (trees : List Tree) (b : Bool) (c : Claim) → IsClaimOf trees c → IsClaimOf trees (turned_claim b c)
turned-there trees true c there = there
turned-there trees false c there = there

pub cut-left : (old mid new : List Tree) (denied : List Bool) (claim all result : Claim) (inner left : List Claim) → Grows old mid → Grows mid new → length denied ≤ length old → IsClaimOf old claim → IsConjunctionAt old claim.node inner → AreLeftOf mid denied inner left →
    IsClaimOfEach left new all → result ≡ turned_claim claim.holds all → IsLeftOf new denied claim result
cut-left old mid new denied claim all result inner left first second count there is are each turned = (
  subst (IsClaimOf new) (sym turned) (turned-there new claim.holds all each.0),
  λ answers fail.
      (let node = node_claim claim.node in
      let both = are.1 answers (fail-before mid new denied answers second (no-fewer old mid (length denied) first count) fail) in
      let own : claim_holds answers new node ≡ claim_holds answers old node = keeps-value mid new node answers second (stays-claim old mid node first there) ∙ keeps-value old mid node answers first there in
      let forth : IsTrue (claim_holds answers new node) → IsTrue (claim_holds answers new all) =
      λ h. (each.1 answers).1 (keep-values mid new left answers second are.0 (both.0 (keep-values old mid inner answers first is.0.0 ((is.1 answers).0 (sym own ∙ h))))) in
      let back : IsTrue (claim_holds answers new all) → IsTrue (claim_holds answers new node) =
      λ h. own ∙ (is.1 answers).1 (had-values old mid inner answers first is.0.0 (both.1 (had-values mid new left answers second are.0 ((each.1 answers).0 h)))) in
      ap (as_claimed claim.holds) (same-value (claim_holds answers new node) (claim_holds answers new all) (forth, back))
      ∙ sym (turned-value answers new claim.holds all) ∙ ap (claim_holds answers new) (sym turned)),
)

-- ---- beside the claim that denies

pub left-agree : (of : SchemaTests) (old new : List Tree) (one : Claim) (denied : List Bool) (others left : List Claim) → Grows old new → IsClaimOf old one → length denied ≤ length old → AreDenied of old one denied → AreLeftOf new denied others left → AgreeBeside of.schema of.tests new one others left
left-agree of old new one denied others left grows there count are left_are r answers valid say h =
    left_are.1 answers (fail-later old new denied answers grows count (denied-fail of old one denied are r answers valid say (sym (keeps-value old new one answers grows there) ∙ h)))
