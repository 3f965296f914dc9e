-- The fronts of patterns, and words of what they do.
use Rattle.std.proofs.Common.{◌≡◌, ℕ, ◌+◌, ◌*◌, ◌/◌, ◌%◌, ◌-◌, ◌<◌, ◌≤◌, Bool, eqb, sym, ap, ◌∙◌, inl, inr, arith, List, [], ◌∷◌, ◌++◌, length, map, get_or, Option, None, Some, take}
use Rattle.std.proofs.lemmas.Bool.{cases_lt}
use Rattle.std.proofs.lemmas.Nat.Bits.{bit_at-zero}
use Rattle.std.proofs.lemmas.List.{map_push, take_more, append_assoc, append-nil, get_or_append_left, get_or_past, get_or_push, length-append}
use Rattle.wildcard_lang.specs.declared.piece.Piece.{Piece}
use Rattle.wildcard_lang.specs.Accepts.{tests}
use Rattle.wildcard_lang.proofs.Laws.{length-tests, get_or-tests}
use Rattle.pattern_automata.specs.declared.fronts.Kind.{Kind}
use Rattle.pattern_automata.specs.Packed.{is_bit_on, word_mark, word_with}
use Rattle.pattern_automata.specs.Moves.{fronts, piece_does}
use Rattle.pattern_automata.proofs.Bits.{half-small}
use Rattle.pattern_automata.proofs.Packing.{on-word_with}

fronts-push : (ps : List (List Piece)) (p : List Piece) → fronts (ps ++ p ∷ []) ≡ fronts ps ++ (None ∷ map Some p)
fronts-push [] p = ap (λ x. None ∷ x) (append-nil (map Some p))
fronts-push (q ∷ qs) p = ap (λ x. None ∷ (map Some q ++ x)) (fronts-push qs p) ∙ ap (λ x. None ∷ x) (sym (append_assoc (map Some q) (fronts qs) (None ∷ map Some p)))

pub fronts-more : (ps : List (List Piece)) (i : ℕ) (p : List Piece) (old new : List (Option Piece)) → i < length ps → p ≡ get_or ps i p → old ≡ fronts (take i ps) →
    new ≡ old ++ (None ∷ map Some p) → new ≡ fronts (take (i + 1) ps)
fronts-more ps i p old new h read are pushed =
    let more : fronts (take (i + 1) ps) ≡ fronts (take i ps) ++ (None ∷ map Some p) =
    ap fronts (take_more ps i p h) ∙ (fronts-push (take i ps) (get_or ps i p) ∙ ap (λ x. fronts (take i ps) ++ (None ∷ map Some x)) (sym read)) in
    rw (pushed, are) (sym more)

-- one more piece
pub pieces-more : (old now new : List (Option Piece)) (items : List Piece) (i : ℕ) (d : Piece) → i < length items → now ≡ old ++ (None ∷ map Some (take i items)) → new ≡ now ++ Some (get_or items i d) ∷ [] →
    new ≡ old ++ (None ∷ map Some (take (i + 1) items))
pieces-more old now new items i d h are pushed =
    let more : map Some (take (i + 1) items) ≡ map Some (take i items) ++ Some (get_or items i d) ∷ [] =
    ap (map Some) (take_more items i d h) ∙ map_push (λ (x : Piece). Some x) (take i items) (get_or items i d) in
    rw (pushed, are, more) (append_assoc old (None ∷ map Some (take i items)) (Some (get_or items i d) ∷ []))

pub word-half : (f : ℕ → Bool) (s i word : ℕ) → 0 < i → word ≡ word_with (tests f (s + i) (64 - i)) → word < 9223372036854775808
word-half f s i word low are = let h = half-small (tests f (s + i) (64 - i)) (omega (arith, length-tests f (s + i) (64 - i))) in omega (arith, are, h)

pub word-bits : (f : ℕ → Bool) (s i word : ℕ) → i ≤ 0 → word ≡ word_with (tests f (s + i) (64 - i)) → (b : ℕ) → b < 64 → is_bit_on word b ≡ f (s + b)
word-bits f s i word none are b h =
    let e : 64 - i ≡ 64 = omega arith in
    let a : s + i ≡ s = omega arith in
    rw (are, e, a) (on-word_with (tests f s 64) b ∙ get_or-tests f s 64 b h)

-- one more word
pub words-more : (kind : Kind) (F : List (Option Piece)) (words new : List ℕ) (i word : ℕ) → length words ≡ i → ((j : ℕ) → j < 64 * i → word_mark words j ≡ piece_does kind F j) →
    ((b : ℕ) → b < 64 → is_bit_on word b ≡ piece_does kind F (64 * i + b)) → new ≡ words ++ word ∷ [] → (length new ≡ i + 1) × ((j : ℕ) → j < 64 * (i + 1) → word_mark new j ≡ piece_does kind F j)
words-more kind F words new i word count marks bits pushed = (
  omega (arith, ap length pushed, length-append words (word ∷ []), count),
  λ j h.
      elim (cases_lt j (64 * i)) [
        | inl l ↦
            let old : get_or new (j / 64) 0 ≡ get_or words (j / 64) 0 = ap (λ x. get_or x (j / 64) 0) pushed ∙ get_or_append_left words (word ∷ []) 0 (j / 64) (omega (arith, count)) in
            ap (λ x. is_bit_on x (j % 64)) old ∙ marks j l
        | inr g ↦
            let last : get_or new (j / 64) 0 ≡ word = ap (λ x. get_or x (j / 64) 0) pushed ∙ get_or_push words word 0 (j / 64) (omega (arith, count)) in
            let at : 64 * i + j % 64 ≡ j = omega arith in
            ap (λ x. is_bit_on x (j % 64)) last ∙ (bits (j % 64) (omega arith) ∙ ap (piece_does kind F) at)
      ],
)

-- the words of all
pub words-end : (kind : Kind) (F : List (Option Piece)) (words : List ℕ) (i : ℕ) → length F / 64 + 1 ≤ i → length words ≡ i → ((j : ℕ) → j < 64 * i → word_mark words j ≡ piece_does kind F j) →
    (j : ℕ) → word_mark words j ≡ piece_does kind F j
words-end kind F words i end count marks j =
    elim (cases_lt j (64 * i)) [
      | inl l ↦ marks j l
      | inr g ↦
          let none : get_or words (j / 64) 0 ≡ 0 = get_or_past words (j / 64) 0 (omega (arith, count)) in
          let past : get_or F j None ≡ None = get_or_past F j None (omega arith) in
          rw (none, past) (ap (λ x. eqb x 1) (bit_at-zero (j % 64)))
    ]
