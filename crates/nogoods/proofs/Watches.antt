-- Buckets of numbers that change.
use Rattle.std.proofs.Common.{◌≡◌, ℕ, ◌+◌, ◌<◌, ◌≤◌, List, [], ◌∷◌, ◌++◌, length, get_or, set, Bool, refl, sym, ◌∙◌, subst, inl, inr, arith, get_or-set_same, get_or-set_other, length-append, ◌⊎◌}
use Rattle.std.proofs.lemmas.List.{get_or_append_left, get_or_default, get_or_push, get_or_read}
use Rattle.std.proofs.lemmas.Bool.{cases_lt}
use Rattle.std.specs.Prelude.{Contains}
use Rattle.formula_tree.specs.Answers.{Answers, Contained}
use Rattle.formula_tree.proofs.Laws.{cases_eq}
use Rattle.nogoods.specs.Tracking.{IsLacking, watchers_in}
use Rattle.nogoods.specs.Hits.{IsFirstHit, IsHit, NoneBefore, answers_at}
use Rattle.nogoods.specs.Turning.{KeepsOthers, KeepsWatchers, StayAsHits, TurnsOrStays}

contains-more : {X : Type 0} (xs ys : List X) (x : X) → Contains xs x → Contains (xs ++ ys) x
contains-more xs ys x (k, lt, is) = (k, omega (arith, lt, length-append xs ys), get_or_append_left xs ys x k lt ∙ is)

contains-last : {X : Type 0} (xs : List X) (x : X) → Contains (xs ++ x ∷ []) x
contains-last xs x = (length xs, omega (arith, length-append xs (x ∷ [])), get_or_push xs x x (length xs) refl)

pub bucket-set : (ws : List (List ℕ)) (b : ℕ) (xs : List ℕ) → b < length ws → watchers_in (set ws b xs) b ≡ xs
bucket-set ws b xs lt = get_or-set_same ws b xs [] lt

pub others-set : (ws : List (List ℕ)) (b : ℕ) (xs : List ℕ) → KeepsOthers b ws (set ws b xs)
others-set ws b xs other ne = get_or-set_other ws b other xs [] ne

-- a bucket that gets one more number at its end
pub keeps-put : (old mid : List (List ℕ)) (b : ℕ) (xs more : List ℕ) → ((n : ℕ) → watchers_in mid n ≡ watchers_in old n) → b < length mid → xs ≡ watchers_in mid b ++ more → KeepsWatchers old (set mid b xs)
keeps-put old mid b xs more same lt is other number held =
    let P : List ℕ → Type 0 = λ ys. Contains ys number in
    let here : Contains (watchers_in mid other) number = subst P (sym (same other)) held in
    elim (cases_eq other b) [
      | inl e ↦
          let at : Contains (watchers_in mid b) number = subst (λ (k : ℕ). Contains (watchers_in mid k) number) e here in
          let longer : Contains xs number = subst P (sym is) (contains-more (watchers_in mid b) more number at) in
          subst (λ (k : ℕ). Contains (watchers_in (set mid b xs) k) number) (sym e) (subst P (sym (bucket-set mid b xs lt)) longer)
      | inr ne ↦ subst P (sym (others-set mid b xs other ne)) here
    ]

pub holds-put : (mid : List (List ℕ)) (b : ℕ) (xs before : List ℕ) (number : ℕ) → b < length mid → xs ≡ before ++ number ∷ [] → Contains (watchers_in (set mid b xs) b) number
holds-put mid b xs before number lt is = let P : List ℕ → Type 0 = λ ys. Contains ys number in subst P (sym (bucket-set mid b xs lt ∙ is)) (contains-last before number)

pub keeps-then : (old mid new : List (List ℕ)) → KeepsWatchers old mid → KeepsWatchers mid new → KeepsWatchers old new
keeps-then old mid new first second b number held = second b number (first b number held)

-- what was turned stays so in buckets that keep their numbers, beside more that stay
pub turned-more : (lists : List Answers) (path : Answers) (old new : List (List ℕ)) (stay more : List ℕ) (number : ℕ) → KeepsWatchers old new → ((n : ℕ) → Contains stay n → Contains more n) → TurnsOrStays lists path old stay number → TurnsOrStays lists path new more number
turned-more lists path old new stay more number keeps also is lt =
    elim (is lt) [
      | inl here ↦ inl (here.0, also number here.1)
      | inr turned ↦ inr (record { test = turned.test; answer = turned.answer; lacking = turned.lacking; there = keeps _ number turned.there })
    ]

-- and so are the first lists of several, when the next one is turned
pub turned-next : (lists : List Answers) (path : Answers) (old new : List (List ℕ)) (stay more watchers : List ℕ) (i first : ℕ) → i < length watchers → KeepsWatchers old new → ((n : ℕ) → Contains stay n → Contains more n) →
    ((k d : ℕ) → k < i → TurnsOrStays lists path old stay (get_or watchers k d)) → TurnsOrStays lists path new more (get_or watchers i first) →
    (k d : ℕ) → k < i + 1 → TurnsOrStays lists path new more (get_or watchers k d)
turned-next lists path old new stay more watchers i first within keeps also before next k d lt =
    let P : ℕ → Type 0 = λ n. TurnsOrStays lists path new more n in
    elim (cases_lt k i) [
      | inl earlier ↦ turned-more lists path old new stay more (get_or watchers k d) keeps also (before k d earlier)
      | inr here ↦
          let e : i ≡ k = omega (arith, lt, here) in
          subst (λ (m : ℕ). P (get_or watchers m d)) e (subst P (get_or_default watchers i first d within) next)
    ]

-- so each of them is turned
pub turned-all : (lists : List Answers) (path : Answers) (watching : List (List ℕ)) (stay watchers : List ℕ) (n : ℕ) → length watchers ≤ n →
    ((k d : ℕ) → k < n → TurnsOrStays lists path watching stay (get_or watchers k d)) → (number : ℕ) → Contains watchers number → TurnsOrStays lists path watching stay number
turned-all lists path watching stay watchers n le all number (k, lt, is) =
    let P : ℕ → Type 0 = λ m. TurnsOrStays lists path watching stay m in
    subst P is (all k number (omega (arith, lt, le)))

-- what is in a list with one more at its end is in it, or is that one
contains-push : (xs : List ℕ) (x y : ℕ) → Contains (xs ++ x ∷ []) y → Contains xs y ⊎ (y ≡ x)
contains-push xs x y (k, lt, is) =
    elim (cases_lt k (length xs)) [
      | inl earlier ↦ inl (k, earlier, sym (get_or_append_left xs (x ∷ []) y k earlier) ∙ is)
      | inr last ↦
          let e : length xs ≡ k = omega (arith, lt, last, length-append xs (x ∷ [])) in
          inr (sym is ∙ get_or_push xs x y k e)
    ]

-- a list that the path contains joins those that stay
pub stays : (lists : List Answers) (path : Answers) (watching : List (List ℕ)) (stay : List ℕ) (number : ℕ) (answers : Answers) → answers_at lists number ≡ answers → Contained answers path → TurnsOrStays lists path watching (stay ++ number ∷ []) number
stays lists path watching stay number answers at contained lt =
    let P : Answers → Type 0 = λ a. Contained a path in
    inl (subst P (sym at) contained, contains-last stay number)

pub stays-none : (lists : List Answers) (path : Answers) (stay : List ℕ) → stay ≡ [] → StayAsHits lists path stay
stays-none lists path stay none number there =
    let (k, lt, is) = subst (λ (xs : List ℕ). Contains xs number) none there in
    absurd (omega (arith, lt))

pub stay-hits : (lists : List Answers) (path : Answers) (stay : List ℕ) (number : ℕ) (answers : Answers) → number < length lists → answers_at lists number ≡ answers → Contained answers path → StayAsHits lists path stay → StayAsHits lists path (stay ++ number ∷ [])
stay-hits lists path stay number answers within at contained before n held =
    let P : Answers → Type 0 = λ a. Contained a path in
    let Q : ℕ → Type 0 = λ m. (m < length lists) × IsHit lists path m in
    elim (contains-push stay number n held) [
      | inl earlier ↦ before n earlier
      | inr e ↦ subst Q (sym e) (within, subst P (sym at) contained)
    ]

-- ---- the first list that the path contains

pub lacking-none : (answers path : Answers) (p : ℕ × Bool) → IsLacking answers path p → Contained answers path → ⊥
lacking-none answers path p lacking contained = lacking.lacks (contained p.0 p.1 lacking.own)

module _ (lists : List Answers) (path : Answers) (i : ℕ) (list : Answers) (lt : i < length lists) (is : list ≡ get_or lists i list) where
  pub none-next : (Contained list path → ⊥) → NoneBefore lists path i → NoneBefore lists path (i + 1)
  none-next lacks none k within hit =
      elim (cases_eq i k) [
        | inl e ↦ absurd (lacks (subst (λ (xs : Answers). Contained xs path) (sym (get_or_read lists i list lt is [])) (subst (λ (n : ℕ). IsHit lists path n) (sym e) hit)))
        | inr ne ↦ omega (arith, ne, none k within hit)
      ]

  pub first-here : Contained list path → NoneBefore lists path i → IsFirstHit lists path i
  first-here contained none = record { there = lt; hit = subst (λ (xs : Answers). Contained xs path) (get_or_read lists i list lt is []) contained; first = none }
