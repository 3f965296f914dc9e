-- Product states from marks.
use Rattle.std.proofs.Common.{◌≡◌, ℕ, zero, suc, ◌+◌, ◌<◌, ◌≤◌, List, [], ◌∷◌, ◌++◌, length, get_or, Bool, true, false, cond, refl, sym, ap, ◌∙◌, inl, inr, arith, take, drop, add-one, append_assoc}
use Rattle.std.proofs.lemmas.Bool.{cases_lt}
use Rattle.std.proofs.lemmas.List.{take_more, append-nil, get_or-take, get_or-drop, get_or_append_left, get_or_push, length_push}
use Rattle.wildcard_lang.specs.declared.piece.Piece.{Piece}
use Rattle.wildcard_lang.specs.Accepts.{accepts, marks_of}
use Rattle.wildcard_lang.proofs.Laws.{get_or-marks_of, rising-same}
use Rattle.wildcard_lang.specs.Places.{passing_numbers, places_of, lists_of}
use Rattle.pattern_automata.specs.Marks.{all_marks, mark_count}
use Rattle.pattern_automata.specs.Packed.{all_words, word_mark}
use Rattle.pattern_automata.specs.Answer.{AddsLists, AddsPlaces, AreStatesOf}
use Rattle.pattern_automata.specs.Cuts.{AreEndsOf, cut_at}
use Rattle.pattern_automata.proofs.Cutting.{after-push, length-cut}
use Rattle.pattern_automata.proofs.Packing.{mark-pack}
use Rattle.pattern_automata.proofs.Parts.{part}

cond-append : (b : Bool) (i : ℕ) (R X : List ℕ) → cond b (i ∷ (R ++ X)) (R ++ X) ≡ cond b (i ∷ R) R ++ X
cond-append true i R X = refl
cond-append false i R X = refl

rising-push : (f : ℕ → Bool) (i k : ℕ) → passing_numbers f i (suc k) ≡ passing_numbers f i k ++ cond (f (i + k)) ((i + k) ∷ []) []
rising-push f i zero = let e : i + 0 ≡ i = omega arith in rw e refl
rising-push f i (suc k) =
    let e : i + 1 + k ≡ i + suc k = omega arith in
    let more : passing_numbers f (i + 1) (suc k) ≡ passing_numbers f (i + 1) k ++ cond (f (i + suc k)) ((i + suc k) ∷ []) [] = rw e at (rising-push f (i + 1) k) in
    rw more (cond-append (f i) i (passing_numbers f (i + 1) k) (cond (f (i + suc k)) ((i + suc k) ∷ []) []))

module _ (f : ℕ → Bool) (i : ℕ) (old list : List ℕ) (are : list ≡ old ++ passing_numbers f 0 i) where
  more : old ++ passing_numbers f 0 (i + 1) ≡ list ++ cond (f i) (i ∷ []) []
  more =
      let e : 0 + i ≡ i = omega arith in
      rw (add-one, are) (ap (λ x. old ++ x) (rw e at (rising-push f 0 i)) ∙ sym (append_assoc old (passing_numbers f 0 i) (cond (f i) (i ∷ []) [])))

  pub push-place : (new : List ℕ) → f i ≡ true → new ≡ list ++ i ∷ [] → new ≡ old ++ passing_numbers f 0 (i + 1)
  push-place new h is = is ∙ sym (rw h at more)

  pub skip-place : f i ≡ false → list ≡ old ++ passing_numbers f 0 (i + 1)
  skip-place h = sym (append-nil list) ∙ sym (rw h at more)

lists_of-append : (ps qs : List (List Piece)) (t : List ℕ) → lists_of (ps ++ qs) t ≡ lists_of ps t ++ lists_of qs t
lists_of-append [] qs t = refl
lists_of-append (p ∷ ps) qs t = ap (λ x. places_of p t ∷ x) (lists_of-append ps qs t)

-- one more pattern
lists-more : (ps : List (List Piece)) (i : ℕ) (p : List Piece) (t words : List ℕ) (at size : ℕ) (list : List ℕ) (lists new : List (List ℕ)) →
    i < length ps → p ≡ get_or ps i p → size ≡ length p + 1 → at ≡ mark_count (take i ps) → words ≡ all_words ps t →
    list ≡ passing_numbers (λ j. word_mark words (at + j)) 0 size → lists ≡ lists_of (take i ps) t → new ≡ lists ++ list ∷ [] →
    new ≡ lists_of (take (i + 1) ps) t
lists-more ps i p t words at size list lists new in' read e f is are before pushed =
    let M : List Bool = all_marks ps t in
    let v : take size (drop at M) ≡ marks_of p t = part ps i p in' read t M at size e f refl in
    let mark : (j : ℕ) → 0 ≤ j → j < 0 + size → word_mark words (at + j) ≡ accepts (take j p) t =
    λ j l h.
    ap (λ x. word_mark x (at + j)) is
    ∙ (mark-pack M (at + j)
    ∙ (sym (get_or-drop at M j false) ∙ (sym (get_or-take size (drop at M) j false (omega arith)) ∙ (ap (λ x. get_or x j false) v ∙ get_or-marks_of p t j (omega arith))))) in
    let l : list ≡ places_of p t = are ∙ (rising-same _ (λ j. accepts (take j p) t) 0 size mark ∙ ap (passing_numbers (λ j. accepts (take j p) t) 0) e) in
    let s : lists_of (take (i + 1) ps) t ≡ lists_of (take i ps) t ++ places_of p t ∷ [] =
    ap (λ x. lists_of x t) (take_more ps i p in') ∙ (lists_of-append (take i ps) (get_or ps i p ∷ []) t ∙ rw (← read) refl) in
    rw (pushed, before, l) (sym s)

-- the lists that lie in the places, with those of one more pattern
pub lists-pushed : (ps : List (List Piece)) (i : ℕ) (p : List Piece) (words : List ℕ) (at size : ℕ) → i < length ps → p ≡ get_or ps i p → size ≡ length p + 1 → at ≡ mark_count (take i ps) →
    (old : List (List ℕ)) (ends new_ends places new : List ℕ) (n : ℕ) → AreEndsOf 0 ends (length places) →
    ((state : List (List ℕ)) × (cut_at 0 ends places ≡ old ++ state) × ((t : List ℕ) → words ≡ all_words ps t → state ≡ lists_of (take i ps) t)) →
    AddsPlaces words at size places new → n ≡ length new → new_ends ≡ ends ++ n ∷ [] →
    AreEndsOf 0 new_ends (length new)
    × ((state : List (List ℕ)) × (cut_at 0 new_ends new ≡ old ++ state) × ((t : List ℕ) → words ≡ all_words ps t → state ≡ lists_of (take (i + 1) ps) t))
lists-pushed ps i p words at size in' read e f old ends new_ends places new n are before added is pushed =
    let list : List ℕ = passing_numbers (λ j. word_mark words (at + j)) 0 size in
    let after = after-push ends new_ends places new list n are added is pushed in (
      after.0,
      (
        before.0 ++ list ∷ [],
        after.1 ∙ (ap (λ x. x ++ list ∷ []) before.1 ∙ append_assoc old before.0 (list ∷ [])),
        λ t h. lists-more ps i p t words at size list before.0 _ in' read e f h refl (before.2 t h) refl,
      ),
    )

-- the product states whose lists lie in the places, with one more
pub states-more : (ps : List (List Piece)) (found : List (List ℕ)) (i : ℕ) (words ends new_ends places new states new_states : List ℕ) (n : ℕ) → words ≡ get_or found i [] →
    AddsLists ps words (cut_at 0 ends places) (cut_at 0 new_ends new) → AreEndsOf 0 states (length (cut_at 0 ends places)) →
    length (cut_at 0 states (cut_at 0 ends places)) ≡ i → AreStatesOf ps found (cut_at 0 states (cut_at 0 ends places)) → n ≡ length new_ends → new_states ≡ states ++ n ∷ [] →
    AreEndsOf 0 new_states (length (cut_at 0 new_ends new)) × (length (cut_at 0 new_states (cut_at 0 new_ends new)) ≡ i + 1) × AreStatesOf ps found (cut_at 0 new_states (cut_at 0 new_ends new))
states-more ps found i words ends new_ends places new states new_states n read adds are size all is pushed =
    let closed : List (List (List ℕ)) = cut_at 0 states (cut_at 0 ends places) in
    let after = after-push states new_states (cut_at 0 ends places) (cut_at 0 new_ends new) adds.0 n are adds.2 (is ∙ sym (length-cut 0 new_ends new)) pushed in (
      after.0,
      ap length after.1 ∙ (length_push closed adds.0 ∙ ap (λ k. k + 1) size),
      λ k t h is-text.
          elim (cases_lt k (length closed)) [
            | inl s ↦ (ap (λ x. get_or x k []) after.1 ∙ get_or_append_left closed (adds.0 ∷ []) [] k s) ∙ all k t s is-text
            | inr g ↦
                let e : k ≡ length closed = omega (arith, ap length after.1, length_push closed adds.0) in
                (ap (λ x. get_or x k []) after.1 ∙ get_or_push closed adds.0 [] k (sym e)) ∙ adds.1 t (read ∙ (ap (λ x. get_or found x []) (sym (e ∙ size)) ∙ is-text))
          ],
    )
