-- The step from the places of a text is the places of the text with one more character.
use Rattle.std.proofs.Common.{◌≡◌, ℕ, zero, suc, ◌+◌, ◌<◌, ◌≤◌, List, [], ◌∷◌, ◌++◌, length, get_or, Bool, true, false, ◌&&◌, All, Contains, eqb, inl, inr, refl, sym, ◌∙◌, arith, take}
use Rattle.std.proofs.lemmas.Bool.{cases_eq, cases_lt, cases_Bool, both_ways, or_cases, or_left, or_right, and_parts, eqb-true, eq-eqb}
use Rattle.std.proofs.lemmas.List.Elements.{All-head, All-tail}
use Rattle.std.proofs.lemmas.Bool.Decides.{nat_tests}
use Rattle.wildcard_lang.specs.declared.piece.Piece.{Piece}
use Rattle.wildcard_lang.specs.declared.piece.Piece.TheVariants.{One}
use Rattle.wildcard_lang.specs.Matching.{takes, is_many}
use Rattle.wildcard_lang.specs.Accepts.{accepts, reaches}
use Rattle.wildcard_lang.proofs.Accept.{reaches-accepts, Decides-accepts}
use Rattle.wildcard_lang.specs.Places.{contains_place, passing_numbers, places_of, step, lists_of, step_lists, Leads, takes_one, stays, goes_on, PlacesAreMatched, StepsAreLed, WidthsGrow}

-- a number below the first is not in the list
has-below : (f : ℕ → Bool) (i k j : ℕ) → j < i → contains_place (passing_numbers f i k) j ≡ false
has-below f i zero j h = refl
has-below f i (suc k) j h = grind (arith, nat_tests, has-below f (i + 1) k j (omega arith))

-- a number in the range is in the list where it passes
pub has-rising : (f : ℕ → Bool) (i k j : ℕ) → i ≤ j → j < i + k → contains_place (passing_numbers f i k) j ≡ f j
has-rising f i zero j h l = absurd (omega arith)
has-rising f i (suc k) j h l =
    elim (cases_eq i j) [
      | inl e ↦ grind (arith, nat_tests, has-below f (i + 1) k j)
      | inr n ↦ grind (arith, nat_tests, has-rising f (i + 1) k j (omega arith) (omega arith))
    ]

-- tests that agree in the range give one list
pub rising-same : (f g : ℕ → Bool) (i k : ℕ) → ((j : ℕ) → i ≤ j → j < i + k → f j ≡ g j) → passing_numbers f i k ≡ passing_numbers g i k
rising-same f g i zero h = refl
rising-same f g i (suc k) h = rw (h i (omega arith) (omega arith), rising-same f g (i + 1) k (λ j l m. h j (omega arith) (omega arith))) refl

-- the places of a text
pub has-places : (ps : List Piece) (t : List ℕ) (j : ℕ) → j ≤ length ps → contains_place (places_of ps t) j ≡ accepts (take j ps) t
has-places ps t j h = has-rising (λ i. accepts (take i ps) t) 0 (length ps + 1) j (omega arith) (omega arith)

pub step-places : (ps : List Piece) (t : List ℕ) (c : ℕ) → step ps (places_of ps t) c ≡ places_of ps (t ++ c ∷ [])
step-places ps t c = rising-same _ _ 0 (length ps + 1) (λ j l m. reaches-accepts ps (contains_place (places_of ps t)) t c (has-places ps t) j (omega arith))

pub step_lists-of : (patterns : List (List Piece)) (t : List ℕ) (c : ℕ) → step_lists patterns (lists_of patterns t) c ≡ lists_of patterns (t ++ c ∷ [])
step_lists-of [] t c = refl
step_lists-of (p ∷ ps) t c = rw (step-places p t c, step_lists-of ps t c) refl

-- a number past the range is not in the list
has-above : (f : ℕ → Bool) (i k j : ℕ) → i + k ≤ j → contains_place (passing_numbers f i k) j ≡ false
has-above f i zero j h = refl
has-above f i (suc k) j h = grind (arith, nat_tests, has-above f (i + 1) k j (omega arith))

rising-within : (f : ℕ → Bool) (n j : ℕ) → contains_place (passing_numbers f 0 (n + 1)) j ≡ true → (j ≤ n) × (f j ≡ true)
rising-within f n j h =
    elim (cases_lt n j) [
      | inl l ↦ absurd (both_ways _ (has-above f 0 (n + 1) j (omega arith)) h)
      | inr g ↦ (g, sym (has-rising f 0 (n + 1) j (omega arith) (omega arith)) ∙ h)
    ]

rising-has : (f : ℕ → Bool) (n j : ℕ) → j ≤ n → f j ≡ true → contains_place (passing_numbers f 0 (n + 1)) j ≡ true
rising-has f n j l h = has-rising f 0 (n + 1) j (omega arith) (omega arith) ∙ h

pub places-matched : PlacesAreMatched
places-matched ps t j = (
  λ h. let w = rising-within (λ i. accepts (take i ps) t) (length ps) j h in (w.0, (Decides-accepts (take j ps) t).0 w.1),
  λ p. rising-has (λ i. accepts (take i ps) t) (length ps) j p.0 ((Decides-accepts (take j ps) t).1 p.1),
)

has-to : (is : List ℕ) (j : ℕ) → contains_place is j ≡ true → Contains is j
has-to [] j h = absurd (cc)
has-to (i ∷ is) j h =
    elim (or_cases (eqb i j) _ h) [
      | inl e ↦ (0, omega arith, eqb-true i j e)
      | inr r ↦ let w = has-to is j r in (suc w.0, omega (arith, w.1), w.2)
    ]

has-from : (is : List ℕ) (j k : ℕ) → k < length is → get_or is k j ≡ j → contains_place is j ≡ true
has-from [] j k h e = absurd (omega arith)
has-from (i ∷ is) j zero h e = or_left _ _ (eq-eqb i j e)
has-from (i ∷ is) j (suc k) h e = or_right _ _ (has-from is j k (omega arith) e)

module _ (ps : List Piece) (places : List ℕ) (c : ℕ) where
  led-to : (j : ℕ) → j ≤ length ps → reaches ps (contains_place places) c j ≡ true → Leads ps places c j
  led-to zero l h = absurd (cc)
  led-to (suc j) l h =
      elim (cases_Bool (is_many (get_or ps j One))) [
        | inl m ↦
            elim (or_cases (takes (get_or ps j One) c && contains_place places (suc j)) (reaches ps (contains_place places) c j) (rw m at h)) [
              | inl b ↦ let both = and_parts (takes (get_or ps j One) c) (contains_place places (suc j)) b in stays (omega arith) m both.0 (has-to places (suc j) both.1)
              | inr r ↦ goes_on (omega arith) m (led-to j (omega arith) r)
            ]
        | inr o ↦ let both = and_parts (takes (get_or ps j One) c) (contains_place places j) (rw o at h) in takes_one (omega arith) o both.0 (has-to places j both.1)
      ]

led-from : (ps : List Piece) (places : List ℕ) (c j : ℕ) → Leads ps places c j → (j ≤ length ps) × (reaches ps (contains_place places) c j ≡ true)
led-from ps places c j (takes_one {j = i} l o t w) = (omega arith, rw (o, t, has-from places i w.0 w.1 w.2) refl)
led-from ps places c j (stays {j = i} l m t w) = (omega arith, rw (m, t, has-from places (suc i) w.0 w.1 w.2) refl)
led-from ps places c j (goes_on {j = i} l m r) =
    let below = led-from ps places c i r in (omega arith, rw (m, below.1) (or_right (takes (get_or ps i One) c && contains_place places (suc i)) true refl))

pub steps-led : StepsAreLed
steps-led ps places c j = (
  λ h. let w = rising-within (reaches ps (contains_place places) c) (length ps) j h in led-to ps places c j w.0 w.1,
  λ l. let w = led-from ps places c j l in rising-has (reaches ps (contains_place places) c) (length ps) j w.0 w.1,
)

places-at : (ps : List (List Piece)) (k : ℕ) (p : List Piece) (t u : List ℕ) → lists_of ps t ≡ lists_of ps u → k < length ps → get_or ps k p ≡ p → places_of p t ≡ places_of p u
places-at [] k p t u e h is = absurd (omega arith)
places-at (q ∷ qs) zero p t u e h is = let same : places_of q t ≡ places_of q u = cc in rw is at same
places-at (q ∷ qs) (suc k) p t u e h is = let rest : lists_of qs t ≡ lists_of qs u = cc in places-at qs k p t u rest (omega arith) is

-- texts with the same product state of some patterns have the same product state of patterns that are among those
pub lists-among : (few more : List (List Piece)) (t u : List ℕ) → All (Contains more) few → lists_of more t ≡ lists_of more u → lists_of few t ≡ lists_of few u
lists-among [] more t u among e = refl
lists-among (p ∷ ps) more t u among e =
    let w = All-head (Contains more) p ps among in
    rw (places-at more w.0 p t u e w.1 w.2, lists-among ps more t u (All-tail (Contains more) p ps among) e) refl

pub widths-grow : WidthsGrow
widths-grow few more n texts among w = record {
  count = w.count;
  different = λ j k d l h same. w.different j k d l h (lists-among few more _ _ among same);
  scalars = w.scalars;
}
