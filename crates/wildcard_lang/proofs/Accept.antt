-- A test that computes whether pieces match a text, and what it does at one more character.
use Rattle.std.proofs.Common.{◌≡◌, ℕ, ◌+◌, ◌<◌, ◌≤◌, List, [], ◌∷◌, ◌++◌, length, get_or, set, get_or-set_same, get_or-set_other, ◌≢◌, zero, suc, Bool, true, false, cond, ◌||◌, ◌&&◌, refl, sym, ap, subst, ◌∙◌, inl, inr, arith, take, add-one}
use Rattle.std.proofs.lemmas.List.{take_more, ext_get_or, get_or_default}
use Rattle.std.proofs.lemmas.Grind.{common_steps}
use Rattle.std.proofs.lemmas.Bool.{cases_Bool, cases_lt, and_parts, or_cases}
use Rattle.std.specs.Bool.{Decides}
use Rattle.wildcard_lang.specs.declared.piece.Piece.{Piece}
use Rattle.wildcard_lang.specs.declared.piece.Piece.TheVariants.{One}
use Rattle.wildcard_lang.specs.Accepts.{accepts_many, accepts_one, is_empty, accepts_piece, accepts, tests, marks_of, reaches, marks_reached}
use Rattle.wildcard_lang.specs.Accepts.{accepts_by, mark_by, reaches_by, ArePlaces, AreReached}
use Rattle.wildcard_lang.specs.Matching.{takes, is_many, Matches, no_pieces, takes_one, is_done, takes_more}

-- one more character and one more piece at the end, for a test g of the pieces with the last and a test f of those before it
snoc_many : {X : Type 0} (f g : List X → Bool) (m k : Bool) (takes : X → Bool) (c : X) →
    ((t : List X) → g (t ++ c ∷ []) ≡ cond m ((k && g t) || f (t ++ c ∷ [])) (k && f t)) → (g [] ≡ (m && f [])) →
    (t : List X) → accepts_many g takes (t ++ c ∷ []) ≡ cond m ((k && accepts_many g takes t) || accepts_many f takes (t ++ c ∷ [])) (k && accepts_many f takes t)
snoc_many f g m k takes c step nil [] = grind (arith, step, nil)
snoc_many f g m k takes c step nil (d ∷ t) = grind (arith, step (d ∷ t), snoc_many f g m k takes c step nil t)

snoc_one : {X : Type 0} (f g : List X → Bool) (m k : Bool) (takes : X → Bool) (c : X) →
    ((t : List X) → g (t ++ c ∷ []) ≡ cond m ((k && g t) || f (t ++ c ∷ [])) (k && f t)) → (g [] ≡ (m && f [])) →
    (t : List X) → accepts_one g takes (t ++ c ∷ []) ≡ cond m ((k && accepts_one g takes t) || accepts_one f takes (t ++ c ∷ [])) (k && accepts_one f takes t)
snoc_one f g m k takes c step nil [] = grind (arith, step, nil)
snoc_one f g m k takes c step nil (d ∷ t) = grind (arith, step t, nil)

snoc_last : {X : Type 0} (m k : Bool) (takes : X → Bool) (c : X) → takes c ≡ k → (t : List X) →
    accepts_piece m takes is_empty (t ++ c ∷ []) ≡ cond m ((k && accepts_piece m takes is_empty t) || is_empty (t ++ c ∷ [])) (k && is_empty t)
snoc_last true k taken c e [] = grind arith
snoc_last true k taken c e (d ∷ []) = grind (arith, snoc_last true k taken c e [])
snoc_last true k taken c e (d ∷ b ∷ t) = grind (arith, snoc_last true k taken c e (b ∷ t))
snoc_last false k taken c e [] = grind arith
snoc_last false k taken c e (d ∷ []) = grind arith
snoc_last false k taken c e (d ∷ b ∷ t) = grind arith

-- the pieces with p at the end, after nothing
pub accepts-at_nil : {X : Type 0} (taken : Piece → X → Bool) (ps : List Piece) (p : Piece) → accepts_by taken (ps ++ p ∷ []) [] ≡ (is_many p && accepts_by taken ps [])
accepts-at_nil taken [] p = grind arith
accepts-at_nil taken (q ∷ ps) p = grind (arith, accepts-at_nil taken ps p)

-- the pieces with p at the end, after one more character
pub accepts-snoc : {X : Type 0} (taken : Piece → X → Bool) (ps : List Piece) (p : Piece) (c : X) (t : List X) →
    accepts_by taken (ps ++ p ∷ []) (t ++ c ∷ []) ≡ cond (is_many p) ((taken p c && accepts_by taken (ps ++ p ∷ []) t) || accepts_by taken ps (t ++ c ∷ [])) (taken p c && accepts_by taken ps t)
accepts-snoc taken [] p c t = snoc_last (is_many p) (taken p c) (taken p) c refl t
accepts-snoc taken (q ∷ ps) p c t =
    elim (is_many q) as (λ m. accepts_piece m (taken q) (accepts_by taken (ps ++ p ∷ [])) (t ++ c ∷ []) ≡ cond (is_many p) ((taken p c && accepts_piece m (taken q) (accepts_by taken (ps ++ p ∷ [])) t) || accepts_piece m (taken q) (accepts_by taken ps) (t ++ c ∷ [])) (taken p c && accepts_piece m (taken q) (accepts_by taken ps) t)) [
      | true ↦ snoc_many (accepts_by taken ps) (accepts_by taken (ps ++ p ∷ [])) (is_many p) (taken p c) (taken q) c (accepts-snoc taken ps p c) (accepts-at_nil taken ps p) t
      | false ↦ snoc_one (accepts_by taken ps) (accepts_by taken (ps ++ p ∷ [])) (is_many p) (taken p c) (taken q) c (accepts-snoc taken ps p c) (accepts-at_nil taken ps p) t
    ]

-- no pieces and something that is taken
pub accepts-none : {X : Type 0} (taken : Piece → X → Bool) (c : X) (t : List X) → accepts_by taken [] (t ++ c ∷ []) ≡ false
accepts-none taken c [] = refl
accepts-none taken c (d ∷ t) = refl

-- ---- of characters

many-same : (f g : List ℕ → Bool) (takes : ℕ → Bool) → ((t : List ℕ) → f t ≡ g t) → (t : List ℕ) → accepts_many f takes t ≡ accepts_many g takes t
many-same f g takes same [] = same []
many-same f g takes same (c ∷ t) = rw (same (c ∷ t), many-same f g takes same t) refl

one-same : (f g : List ℕ → Bool) (takes : ℕ → Bool) → ((t : List ℕ) → f t ≡ g t) → (t : List ℕ) → accepts_one f takes t ≡ accepts_one g takes t
one-same f g takes same [] = refl
one-same f g takes same (c ∷ t) = rw (same t) refl

pub accepts-same : (ps : List Piece) (t : List ℕ) → accepts_by takes ps t ≡ accepts ps t
accepts-same [] t = refl
accepts-same (p ∷ ps) t =
    rw (many-same (accepts_by takes ps) (accepts ps) (takes p) (accepts-same ps) t, one-same (accepts_by takes ps) (accepts ps) (takes p) (accepts-same ps) t) refl

pub reaches-same : (ps : List Piece) (old : ℕ → Bool) (c j : ℕ) → reaches_by takes ps old c j ≡ reaches ps old c j
reaches-same ps old c zero = refl
reaches-same ps old c (suc j) = rw (reaches-same ps old c j) refl

-- the test answers the relation
accepts-from : (ps : List Piece) (t : List ℕ) → Matches ps t → accepts ps t ≡ true
accepts-from [] [] no_pieces = refl
accepts-from [] (c ∷ t) m = elim m [ ]
accepts-from (p ∷ ps) (c ∷ t) (takes_one one k m) = grind (arith, accepts-from ps t m)
accepts-from (p ∷ ps) [] (is_done many m) = grind (arith, accepts-from ps [] m)
accepts-from (p ∷ ps) (c ∷ t) (is_done many m) = grind (arith, accepts-from ps (c ∷ t) m)
accepts-from (p ∷ ps) (c ∷ t) (takes_more many k m) = grind (arith, accepts-from (p ∷ ps) t m)

many-to : (p : Piece) (ps : List Piece) → is_many p ≡ true → ((t : List ℕ) → accepts ps t ≡ true → Matches ps t) →
    (t : List ℕ) → accepts_many (accepts ps) (takes p) t ≡ true → Matches (p ∷ ps) t
many-to p ps many rest [] h = is_done many (rest [] h)
many-to p ps many rest (c ∷ t) h =
    elim (or_cases (accepts ps (c ∷ t)) _ h) [
      | inl a ↦ is_done many (rest (c ∷ t) a)
      | inr b ↦ let both : (takes p c ≡ true) × (accepts_many (accepts ps) (takes p) t ≡ true) = and_parts _ _ b in takes_more many both.0 (many-to p ps many rest t both.1)
    ]

one-to : (p : Piece) (ps : List Piece) → is_many p ≡ false → ((t : List ℕ) → accepts ps t ≡ true → Matches ps t) →
    (t : List ℕ) → accepts_one (accepts ps) (takes p) t ≡ true → Matches (p ∷ ps) t
one-to p ps one rest [] h = absurd (cc)
one-to p ps one rest (c ∷ t) h =
    let both : (takes p c ≡ true) × (accepts ps t ≡ true) = and_parts _ _ h in takes_one one both.0 (rest t both.1)

accepts-to : (ps : List Piece) (t : List ℕ) → accepts ps t ≡ true → Matches ps t
accepts-to [] [] h = no_pieces
accepts-to [] (c ∷ t) h = absurd (cc)
accepts-to (p ∷ ps) t h =
    elim (cases_Bool (is_many p)) [
      | inl e ↦ many-to p ps e (accepts-to ps) t (rw e at h)
      | inr e ↦ one-to p ps e (accepts-to ps) t (rw e at h)
    ]

pub Decides-accepts : (ps : List Piece) (t : List ℕ) → Decides (accepts ps t) (Matches ps t)
Decides-accepts ps t = (accepts-to ps t, accepts-from ps t)

-- ---- places and steps, of whatever is taken

-- the next place, after one more character
pub accepts-more : {X : Type 0} (taken : Piece → X → Bool) (ps : List Piece) (i : ℕ) (d : Piece) (c : X) (t : List X) → i < length ps →
    accepts_by taken (take (i + 1) ps) (t ++ c ∷ []) ≡ mark_by taken (get_or ps i d) c (accepts_by taken (take i ps) t) (accepts_by taken (take (i + 1) ps) t) (accepts_by taken (take i ps) (t ++ c ∷ []))
accepts-more taken ps i d c t h = rw (take_more ps i d h) (accepts-snoc taken (take i ps) (get_or ps i d) c t)

accepts-more_at_nil : {X : Type 0} (taken : Piece → X → Bool) (ps : List Piece) (i : ℕ) (d : Piece) → i < length ps →
    accepts_by taken (take (i + 1) ps) [] ≡ (is_many (get_or ps i d) && accepts_by taken (take i ps) [])
accepts-more_at_nil taken ps i d h = rw (take_more ps i d h) (accepts-at_nil taken (take i ps) (get_or ps i d))

-- the marks in the midst of a step: those up to i are after the character, the others before it
pub record Steps {X : Type 0} (taken : Piece → X → Bool) (ps : List Piece) (old : List Bool) (c : X) (i : ℕ) (before : Bool) (marks : List Bool) : Type 0 where
  pub done : (k : ℕ) → k ≤ i → get_or marks k false ≡ reaches_by taken ps (λ x. get_or old x false) c k
  pub rest : (k : ℕ) → i < k → get_or marks k false ≡ get_or old k false
  pub last : before ≡ get_or old i false

start-done : {X : Type 0} (taken : Piece → X → Bool) (ps : List Piece) (old : List Bool) (c : X) → 0 < length old → (k : ℕ) → k ≤ 0 → get_or (set old 0 false) k false ≡ reaches_by taken ps (λ x. get_or old x false) c k
start-done taken ps old c room zero h = grind (arith, common_steps)
start-done taken ps old c room (suc k) h = absurd (omega arith)

pub Steps-start : {X : Type 0} (taken : Piece → X → Bool) (ps : List Piece) (old : List Bool) (c : X) → 0 < length old → Steps taken ps old c 0 (get_or old 0 false) (set old 0 false)
Steps-start taken ps old c room = record {
  done = start-done taken ps old c room;
  rest = λ k h. grind (arith, common_steps);
  last = refl;
}

pub Steps-more : {X : Type 0} (taken : Piece → X → Bool) (ps : List Piece) (old : List Bool) (c : X) (i : ℕ) (before : Bool) (marks : List Bool) (d : Piece) (v : Bool) →
    i < length ps → i + 1 < length marks → v ≡ mark_by taken (get_or ps i d) c before (get_or marks (i + 1) false) (get_or marks i false) →
    Steps taken ps old c i before marks → Steps taken ps old c (i + 1) (get_or marks (i + 1) false) (set marks (i + 1) v)
Steps-more taken ps old c i before marks d v in' room new steps = record {
  done = λ k h.
      elim (cases_lt k (i + 1)) [
        | inl l ↦ let ne : k ≢ i + 1 = omega arith in rw get_or-set_other (steps.done k (omega arith))
        | inr g ↦
            let e : k ≡ suc i = omega arith in
            let at : suc i ≡ i + 1 = omega arith in
            let a : get_or (set marks (i + 1) v) (i + 1) false ≡ v = get_or-set_same marks (i + 1) v false room in
            let b : get_or marks (i + 1) false ≡ get_or old (i + 1) false = steps.rest (i + 1) (omega arith) in
            let p : get_or ps i d ≡ get_or ps i One = get_or_default ps i d One in' in
            rw (e, at, a, new, b, steps.last, steps.done i (omega arith), p) refl
      ];
  rest = λ k h. grind (arith, common_steps, steps.rest k);
  last = steps.rest (i + 1) (omega arith);
}

-- the step from the places of a text reaches those of the text with c after it
reaches-accepts_by : {X : Type 0} (taken : Piece → X → Bool) (ps : List Piece) (old : ℕ → Bool) (t : List X) (c : X) →
    ((i : ℕ) → i ≤ length ps → old i ≡ accepts_by taken (take i ps) t) →
    (j : ℕ) → j ≤ length ps → reaches_by taken ps old c j ≡ accepts_by taken (take j ps) (t ++ c ∷ [])
reaches-accepts_by taken ps old t c are zero h = sym (accepts-none taken c t)
reaches-accepts_by taken ps old t c are (suc j) h =
    rw (are j (omega arith), are (suc j) h, reaches-accepts_by taken ps old t c are j (omega arith)) (sym (rw add-one at (accepts-more taken ps j One c t (omega arith))))

pub places-after : {X : Type 0} (taken : Piece → X → Bool) (ps : List Piece) (old new : List Bool) (t : List X) (c : X) → ArePlaces taken ps t old →
    AreReached taken ps old c new → ArePlaces taken ps (t ++ c ∷ []) new
places-after taken ps old new t c are step j h = step j h ∙ reaches-accepts_by taken ps (λ i. get_or old i false) t c are j h

pub start-more : {X : Type 0} (taken : Piece → X → Bool) (ps : List Piece) (i : ℕ) (marks : List Bool) (d : Piece) (v : Bool) → i < length ps → i + 1 < length marks →
    ((k : ℕ) → k ≤ i → get_or marks k false ≡ accepts_by taken (take k ps) []) → v ≡ (is_many (get_or ps i d) && get_or marks i false) →
    (k : ℕ) → k ≤ i + 1 → get_or (set marks (i + 1) v) k false ≡ accepts_by taken (take k ps) []
start-more taken ps i marks d v in' room are new k h =
    elim (cases_lt k (i + 1)) [
      | inl l ↦ let ne : k ≢ i + 1 = omega arith in rw get_or-set_other (are k (omega arith))
      | inr g ↦
          let e : k ≡ i + 1 = omega arith in
          let a : get_or (set marks (i + 1) v) (i + 1) false ≡ v = get_or-set_same marks (i + 1) v false room in
          rw (e, a, new, are i (omega arith)) (sym (accepts-more_at_nil taken ps i d in'))
    ]

-- ---- places and steps, of characters

pub reaches-accepts : (ps : List Piece) (old : ℕ → Bool) (t : List ℕ) (c : ℕ) → ((i : ℕ) → i ≤ length ps → old i ≡ accepts (take i ps) t) →
    (j : ℕ) → j ≤ length ps → reaches ps old c j ≡ accepts (take j ps) (t ++ c ∷ [])
reaches-accepts ps old t c are j h =
    sym (reaches-same ps old c j) ∙ reaches-accepts_by takes ps old t c (λ i l. are i l ∙ sym (accepts-same (take i ps) t)) j h ∙ accepts-same (take j ps) (t ++ c ∷ [])

pub length-tests : (f : ℕ → Bool) (i k : ℕ) → length (tests f i k) ≡ k
length-tests f i zero = refl
length-tests f i (suc k) = grind (arith, length-tests f (i + 1) k)

pub get_or-tests : (f : ℕ → Bool) (i k j : ℕ) → j < k → get_or (tests f i k) j false ≡ f (i + j)
get_or-tests f i zero j h = absurd (omega arith)
get_or-tests f i (suc k) zero h = ap f (omega arith)
get_or-tests f i (suc k) (suc j) h =
    let e : i + 1 + j ≡ i + suc j = omega arith in get_or-tests f (i + 1) k j (omega arith) ∙ ap f e

pub length-marks_of : (ps : List Piece) (t : List ℕ) → length (marks_of ps t) ≡ length ps + 1
length-marks_of ps t = length-tests (λ i. accepts (take i ps) t) 0 (length ps + 1)

pub get_or-marks_of : (ps : List Piece) (t : List ℕ) (j : ℕ) → j ≤ length ps → get_or (marks_of ps t) j false ≡ accepts (take j ps) t
get_or-marks_of ps t j h =
    let f : ℕ → Bool = λ i. accepts (take i ps) t in
    let e : 0 + j ≡ j = omega arith in get_or-tests f 0 (length ps + 1) j (omega arith) ∙ ap f e

marks_of-ArePlaces : (ps : List Piece) (t : List ℕ) (marks : List Bool) → length marks ≡ length ps + 1 → ArePlaces takes ps t marks → marks ≡ marks_of ps t
marks_of-ArePlaces ps t marks l are =
    ext_get_or false marks (marks_of ps t) (l ∙ sym (length-marks_of ps t)) (λ i h.
    are i (omega arith) ∙ accepts-same (take i ps) t ∙ sym (get_or-marks_of ps t i (omega arith)))

pub start_answer : (ps qs : List Piece) (marks : List Bool) → qs ≡ ps → length marks ≡ length ps + 1 → ArePlaces takes qs [] marks → marks ≡ marks_of ps []
start_answer ps qs marks e l are = marks_of-ArePlaces ps [] marks l (subst (λ (x : List Piece). ArePlaces takes x [] marks) e are)

pub length-marks_reached : (ps : List Piece) (old : List Bool) (c : ℕ) → length (marks_reached ps old c) ≡ length ps + 1
length-marks_reached ps old c = length-tests (reaches ps (λ i. get_or old i false) c) 0 (length ps + 1)

pub get_or-marks_reached : (ps : List Piece) (old : List Bool) (c j : ℕ) → j ≤ length ps → get_or (marks_reached ps old c) j false ≡ reaches ps (λ i. get_or old i false) c j
get_or-marks_reached ps old c j h =
    let f : ℕ → Bool = reaches ps (λ i. get_or old i false) c in
    let e : 0 + j ≡ j = omega arith in get_or-tests f 0 (length ps + 1) j (omega arith) ∙ ap f e

pub step_answer : (ps qs : List Piece) (old new : List Bool) (c : ℕ) → qs ≡ ps → length new ≡ length ps + 1 → AreReached takes qs old c new → new ≡ marks_reached ps old c
step_answer ps qs old new c e l h =
    let all : AreReached takes ps old c new = subst (λ (x : List Piece). AreReached takes x old c new) e h in
    ext_get_or false new (marks_reached ps old c) (l ∙ sym (length-marks_reached ps old c)) (λ i h.
    all i (omega arith) ∙ reaches-same ps (λ x. get_or old x false) c i ∙ sym (get_or-marks_reached ps old c i (omega arith)))
