-- The loops of a step of words.
use Rattle.std.proofs.Common.{◌≡◌, ℕ, zero, suc, ◌+◌, ◌*◌, ◌<◌, ◌≤◌, Bool, false, sym, ap, ◌∙◌, inl, inr, arith, List, [], ◌∷◌, ◌++◌, length, get_or, set, take, Any, All, Result, Ok, Err, OnOk}
use Rattle.std.proofs.lemmas.Bool.{cases_lt, cases_eq}
use Rattle.std.proofs.lemmas.List.{get_or_append_left, get_or_push, length-append, get_or-set_same, get_or-set_other, take_more, take_all}
use Rattle.std.proofs.lemmas.List.Quantifiers.{Any-push}
use Rattle.wildcard_lang.specs.declared.piece.Piece.{Piece}
use Rattle.pattern_automata.specs.declared.moves.Masks.{Masks}
use Rattle.pattern_automata.specs.declared.moves.Patch.{Patch}
use Rattle.pattern_automata.specs.declared.moves.Move.{Move}
use Rattle.pattern_automata.specs.Marks.{mark_count}
use Rattle.pattern_automata.specs.Packed.{is_bit_on, word_mark, filled_marks, words_for}
use Rattle.pattern_automata.specs.Moves.{HasPatch, IsMasks, IsMove, fronts}
use Rattle.pattern_automata.specs.Steps.{moved_at, HaveSize, AreMoved, IsMovedBy, IsPatched, AreStepped}
use Rattle.pattern_automata.specs.Search.{LeadsByWords}
use Rattle.pattern_automata.proofs.Masking.{all-filled, leads, length-fronts}

-- one more word
pub moved-more : (G : ℕ → ℕ → Bool) (i : ℕ) (old new : List ℕ) (word : ℕ) → length old ≡ i → ((k b : ℕ) → k < i → b < 64 → is_bit_on (get_or old k 0) b ≡ G k b) →
    ((b : ℕ) → b < 64 → is_bit_on word b ≡ G i b) → new ≡ old ++ word ∷ [] → (length new ≡ i + 1) × ((k b : ℕ) → k < i + 1 → b < 64 → is_bit_on (get_or new k 0) b ≡ G k b)
moved-more G i old new word count are made pushed = (
  omega (arith, ap length pushed, length-append old (word ∷ []), count),
  λ k b h l.
      elim (cases_lt k i) [
        | inl s ↦ rw (pushed, get_or_append_left old (word ∷ []) 0 k (omega (arith, count))) (are k b s l)
        | inr g ↦ let e : k ≡ i = omega arith in rw (e, pushed, get_or_push old word 0 i count) (made b l)
      ],
)

-- one more patch
none-more : (ps : List Patch) (p : Patch) (k : ℕ) → (HasPatch ps k → ⊥) → (k ≡ p.index → ⊥) → HasPatch (ps ++ p ∷ []) k → ⊥
none-more [] p k none ne w = elim w.0 as (λ n. n < 1 → get_or (p ∷ []) n w.1 ≡ w.1 → ⊥) [
  | zero ↦ λ h e. ne (sym (ap (λ (x : Patch). x.index) e ∙ w.4))
  | suc n ↦ λ h e. absurd (omega arith)
] w.2 w.3
none-more (q ∷ qs) p k none ne w =
    elim w.0 as (λ n. n < length (q ∷ (qs ++ p ∷ [])) → get_or (q ∷ (qs ++ p ∷ [])) n w.1 ≡ w.1 → ⊥) [
      | zero ↦ λ h e. none (0, w.1, omega arith, e, w.4)
      | suc n ↦ λ h e. none-more qs p k (λ v. none (suc v.0, v.1, omega (arith, v.2), v.3, v.4)) ne (n, w.1, omega arith, e, w.4)
    ] w.2 w.3

moved-kept : (state old new : List ℕ) (xs ys : List Patch) (k : ℕ) → get_or new k 0 ≡ get_or old k 0 → Any (IsMovedBy state old k) xs → Any (IsMovedBy state new k) (xs ++ ys)
moved-kept state old new xs ys k same w = (
  w.0,
  w.1,
  omega (arith, w.2, length-append xs ys),
  get_or_append_left xs ys w.1 w.0 w.2 ∙ w.3,
  (w.4.0, λ b l. ap (λ x. is_bit_on x b) same ∙ w.4.1 b l),
)

module _ (state : List ℕ) (patches : List Patch) (i : ℕ) (p : Patch) (old mid new : List ℕ) (word : ℕ) (h : i < length patches) (read : p ≡ get_or patches i p)
    (is : new ≡ set mid p.index word) (room : p.index < length mid) (made : (b : ℕ) → b < 64 → is_bit_on word b ≡ moved_at p.one p.stay state p.index b) where
  one-more : take (i + 1) patches ≡ take i patches ++ p ∷ []
  one-more = take_more patches i p h ∙ ap (λ x. take i patches ++ x ∷ []) (sym read)

  pub patched-more : (k : ℕ) → IsPatched state (take i patches) old mid k → IsPatched state (take (i + 1) patches) old new k
  patched-more k before =
      rw one-more (elim (cases_eq k p.index) [
        | inl e ↦
            let at : get_or new k 0 ≡ word = rw (is, e) (get_or-set_same mid p.index word 0 room) in
            inl (Any-push (IsMovedBy state new k) (take i patches) p (sym e, λ b l. ap (λ x. is_bit_on x b) at ∙ (made b l ∙ ap (λ x. moved_at p.one p.stay state x b) (sym e))))
        | inr ne ↦
            let same : get_or new k 0 ≡ get_or mid k 0 = rw is (get_or-set_other mid p.index k word 0 ne) in
            elim before [
              | inl w ↦ inl (moved-kept state mid new (take i patches) (p ∷ []) k same w)
              | inr w ↦ inr (same ∙ w.0, none-more (take i patches) p k w.1 ne)
            ]
      ])

pub patched-end : (state : List ℕ) (patches : List Patch) (i : ℕ) (old words : List ℕ) → length patches ≤ i → ((k : ℕ) → k < length state → IsPatched state (take i patches) old words k) →
    (k : ℕ) → k < length state → IsPatched state patches old words k
patched-end state patches i old words h are = let e : take i patches ≡ patches = take_all i patches h in rw e at are

-- the whole step
pub step-ok : {E : Type 0} (result : Result (Unit {0}) E) (m : Masks) (patches : List Patch) (state base moved words : List ℕ) → AreMoved m state base →
    ((k : ℕ) → k < length state → IsPatched state patches base moved k) → length moved ≡ length state →
    OnOk result ((j : ℕ) → j < 64 * length moved → word_mark words j ≡ filled_marks (word_mark moved) (word_mark m.many.items) false j) → OnOk result (AreStepped m patches state words)
step-ok (Ok u) m patches state base moved words are patched count fills = λ one stay masks j h.
    all-filled m patches state one stay masks base moved are patched words (λ i l. fills i (rw count l)) j h
step-ok (Err e) m patches state base moved words are patched count fills = fills

-- sizes
pub masks-size : (ps : List (List Piece)) (m : Masks) (n : ℕ) → IsMasks (fronts ps) m → n ≡ words_for (mark_count ps) → HaveSize m n
masks-size ps m n masks is = (masks.size ∙ omega (arith, length-fronts ps, is), masks.many_size ∙ omega (arith, length-fronts ps, is))

pub patches-within : (ps : List (List Piece)) (s : Move) (n : ℕ) → IsMove (fronts ps) s → n ≡ words_for (mark_count ps) → All (λ (p : Patch). p.index < n) s.patches.items
patches-within ps s n move is k d h = let r = move.distinguished.right k d h in omega (arith, r.within, length-fronts ps, is)

pub leads-ok : {E : Type 0} (result : Result (Unit {0}) E) (ps : List (List Piece)) (m : Masks) (s : Move) (patches : List Patch) (state next : List ℕ) → IsMasks (fronts ps) m → IsMove (fronts ps) s →
    patches ≡ s.patches.items → OnOk result (length next ≡ length state) → OnOk result ((k : ℕ) → k < length next → get_or next k 0 < 18446744073709551616) →
    OnOk result (AreStepped m patches state next) → OnOk result (LeadsByWords ps state s.character next)
leads-ok (Ok u) ps m s patches state next masks move same count small are = leads ps m masks s move state next count small (rw same at are)
leads-ok (Err e) ps m s patches state next masks move same count small are = count
