-- Answers whose tests rise, and the labels that a check keeps.
use Rattle.std.proofs.Common.{◌≡◌, ◌<◌, ◌≤◌, ◌+◌, ◌==◌, ◌&&◌, ◌↔◌, ℕ, zero, suc, nat_le, List, [], ◌∷◌, ◌++◌, length, map, take, get_or, slice_get, Bool, true, false, Option, Some, None, IsTrue, All, refl, sym, ap, ◌∙◌, subst, inl, inr, arith}
use Rattle.std.proofs.lemmas.Bool.Decides.{nat_tests}
use Rattle.std.proofs.lemmas.Grind.{common_steps}
use Rattle.std.proofs.lemmas.List.Elements.{All-cons, All-head, All-nil, All-tail, All-weaker}
use Rattle.std.proofs.lemmas.Option.{slice_get-get_or, slice_get_within, get_or_from_slice_get}
use Rattle.formula_tree.specs.Answers.{Answers, Contained, answer_of}
use Rattle.formula_tree.proofs.Laws.{cases_eq}
use Rattle.pattern_automata.specs.Closed.{rises_from}
use Rattle.refute_check.specs.Closing.{Before, IsLabel, IsReuse, Rise}
use Rattle.refute_check.specs.Labels.{HaveIndices, IsAnswered}

some-same : {X : Type 0} (x y : X) → Some x ≡ Some y → x ≡ y
some-same x y h = cc

-- ---- answers whose tests rise

and-left : (a b : Bool) → a && b ≡ true → a ≡ true
and-left true b h = refl
and-left false b h = absurd (cc)

and-right : (a b : Bool) → a && b ≡ true → b ≡ true
and-right true b h = h
and-right false b h = absurd (cc)

abbrev RiseFrom : ℕ → Answers → Type 0
RiseFrom i answers = rises_from i (map (λ a. a.0) answers) ≡ true

rise-first : (i : ℕ) (p : ℕ × Bool) (ps : Answers) → RiseFrom i (p ∷ ps) → i ≤ p.0
rise-first i p ps rise =
    let le = and-left (nat_le i p.0) (rises_from (p.0 + 1) (map (λ a. a.0) ps)) rise in
    grind (arith, nat_tests)

rise-rest : (i : ℕ) (p : ℕ × Bool) (ps : Answers) → RiseFrom i (p ∷ ps) → RiseFrom (p.0 + 1) ps
rise-rest i p ps = and-right (nat_le i p.0) (rises_from (p.0 + 1) (map (λ a. a.0) ps))

abbrev IsOwn : ℕ → Answers → ℕ × Bool → Type 0
IsOwn i answers a = (answer_of answers a.0 ≡ Some a.1) × (i ≤ a.0)

own-behind : (i : ℕ) (p : ℕ × Bool) (ps : Answers) → i ≤ p.0 → (a : ℕ × Bool) → IsOwn (p.0 + 1) ps a → IsOwn i (p ∷ ps) a
own-behind i p ps low a (own, above) =
    let apart : (p.0 == a.0) ≡ false = grind (arith, nat_tests) in
    (grind (arith, common_steps), omega arith)

-- each answer is that of its test
own-answers : (i : ℕ) (answers : Answers) → RiseFrom i answers → All (IsOwn i answers) answers
own-answers i [] rise = All-nil (IsOwn i [])
own-answers i (p ∷ ps) rise =
    let low = rise-first i p ps rise in
    let own : answer_of (p ∷ ps) p.0 ≡ Some p.1 = grind (arith, common_steps) in
    All-cons (IsOwn i (p ∷ ps)) p ps (own, low) (All-weaker (IsOwn (p.0 + 1) ps) (IsOwn i (p ∷ ps)) (own-behind i p ps low) ps (own-answers (p.0 + 1) ps (rise-rest i p ps rise)))

-- a path that has each of the answers contains them
pub all-contained : (answers path : Answers) → All (IsAnswered path) answers → Contained answers path
all-contained [] path all n b is = absurd (cc)
all-contained (p ∷ ps) path all n b is =
    elim (cases_eq p.0 n) [
      | inl same ↦
          let here : answer_of (p ∷ ps) n ≡ Some p.1 = grind (arith, common_steps) in
          let value : Some p.1 ≡ Some b = sym here ∙ is in
          subst (λ (k : ℕ). answer_of path k ≡ Some b) same (All-head (IsAnswered path) p ps all ∙ value)
      | inr other ↦
          let rest : answer_of ps n ≡ Some b = grind (arith, common_steps) in
          all-contained ps path (All-tail (IsAnswered path) p ps all) n b rest
    ]

-- and the other way, where their tests rise
pub contained-all : (answers path : Answers) → Rise answers → Contained answers path → All (IsAnswered path) answers
contained-all answers path rise inside =
    All-weaker (IsOwn 0 answers) (IsAnswered path) (λ a own. inside a.0 a.1 own.0) answers (own-answers 0 answers rise)

fresh-from : (i : ℕ) (answers : Answers) (k : ℕ) (d : ℕ × Bool) → RiseFrom i answers → k < length answers → answer_of (take k answers) (get_or answers k d).0 ≡ None
fresh-from i [] k d rise small = let bad : ⊥ = omega (arith, small) in absurd bad
fresh-from i (p ∷ ps) zero d rise small = refl
fresh-from i (p ∷ ps) (suc k) d rise small =
    let rest = rise-rest i p ps rise in
    let inside : k < length ps = omega (arith, small) in
    let above = (own-answers (p.0 + 1) ps rest k d inside).1 in
    let before = fresh-from (p.0 + 1) ps k d rest inside in
    let apart : (p.0 == (get_or ps k d).0) ≡ false = grind (arith, nat_tests) in
    grind (arith, common_steps)

-- no answer before one is to its test
pub fresh : (answers : Answers) (k : ℕ) (d : ℕ × Bool) → Rise answers → k < length answers → answer_of (take k answers) (get_or answers k d).0 ≡ None
fresh = fresh-from 0

-- what a label's own rule comes to where its number is the next and its tests rise
pub may-begin : (before : Before) (n : ℕ) (answers path : Answers) (ok : Bool) → n ≡ before.begun → Rise answers → IsTrue ok ↔ All (IsAnswered path) answers → IsTrue ok ↔ IsLabel before n answers path
may-begin before n answers path ok next rise says = (
  λ yes. record { next = next; rise = rise; there = all-contained answers path (says.0 yes) },
  λ is. says.1 (contained-all answers path rise is.there),
)

-- ---- lists that grow at their end

none-more : (indices : List (Option ℕ)) (n : ℕ) → get_or (indices ++ None ∷ []) n None ≡ get_or indices n None
none-more [] zero = refl
none-more [] (suc n) = refl
none-more (x ∷ indices) zero = refl
none-more (x ∷ indices) (suc n) = none-more indices n

within : (indices : List (Option ℕ)) (n i : ℕ) → get_or indices n None ≡ Some i → n < length indices
within [] n i h = absurd (cc)
within (x ∷ indices) zero i h = omega arith
within (x ∷ indices) (suc n) i h = omega (arith, within indices n i h)

-- ---- the indices of ended labels

module _ (ended : List (ℕ × Answers)) (indices : List (Option ℕ)) (indexed : HaveIndices ended indices) where
  pub indexed-begin : HaveIndices ended (indices ++ None ∷ [])
  indexed-begin = record {
    found = λ i n answers h. none-more indices n ∙ indexed.found i n answers h;
    named = λ n i h. indexed.named n i (sym (none-more indices n) ∙ h);
    rise = indexed.rise;
  }

  -- a label that ended is one that began
  pub below : All (λ (l : ℕ × Answers). l.0 < length indices) ended
  below k d small =
      let l = get_or ended k d in
      within indices l.0 k (indexed.found k l.0 l.1 (slice_get-get_or ended k d small))

  -- ---- what may be reused

  module _ (begun n : ℕ) (path : Answers) where
    abbrev MayReuse : Type 0
    MayReuse = IsReuse (record { begun = begun; ended = ended }) n path

    -- where the label of the number stands
    reuse-at : MayReuse → (k : ℕ) × (l : ℕ × Answers) × (get_or indices n None ≡ Some k) × (slice_get ended k ≡ Some l) × Contained l.1 path
    reuse-at (k, l, small, is, said) =
        let at : slice_get ended k ≡ Some l = slice_get-get_or ended k l small ∙ ap Some is in
        (k, l, subst (λ (m : ℕ). get_or indices m None ≡ Some k) said.0 (indexed.found k l.0 l.1 at), at, said.1)

    pub reuse : (i : ℕ) (l : ℕ × Answers) (ok : Bool) → get_or indices n None ≡ Some i → slice_get ended i ≡ Some l → IsTrue ok ↔ All (IsAnswered path) l.1 → IsTrue ok ↔ MayReuse
    reuse i l ok is at says = (
      λ yes.
          let (answers, there) = indexed.named n i is in
          let number : l.0 ≡ n = ap (λ (x : ℕ × Answers). x.0) (some-same l (n, answers) (sym at ∙ there)) in
          (i, l, slice_get_within ended i l at, get_or_from_slice_get ended i l l at, (number, all-contained l.1 path (says.0 yes))),
      λ may.
          let (k, m, at_k, there, inside) = reuse-at may in
          let index : Some k ≡ Some i = sym at_k ∙ is in
          let same : k ≡ i = some-same k i index in
          let own : m ≡ l = some-same m l (sym there ∙ subst (λ (j : ℕ). slice_get ended j ≡ Some l) (sym same) at) in
          let small = slice_get_within ended i l at in
          let rise : Rise l.1 = subst (λ (x : ℕ × Answers). Rise x.1) (get_or_from_slice_get ended i l l at) (indexed.rise i l small) in
          says.1 (contained-all l.1 path rise (subst (λ (x : ℕ × Answers). Contained x.1 path) own inside)),
    )
