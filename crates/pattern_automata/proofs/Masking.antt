-- The masks with the patches of a character in their place say what it does, and a step by them is the step of the marks.
use Rattle.std.proofs.Common.{◌≡◌, ℕ, zero, suc, ◌+◌, ◌*◌, ◌/◌, ◌%◌, ◌<◌, ◌≤◌, ◌⊎◌, Bool, true, false, not, ◌||◌, ◌&&◌, eqb, refl, sym, ap, ◌∙◌, subst, inl, inr, arith, List, [], ◌∷◌, ◌++◌, length, map, get_or, Option, None, Some, All}
use Rattle.std.specs.Bool.{beq}
use Rattle.std.proofs.lemmas.Bool.{cases_lt, cases_eq, cases_Bool, or_parts}
use Rattle.std.proofs.lemmas.List.{ext_get_or, get_or_past, length-append, length-map}
use Rattle.wildcard_lang.specs.declared.piece.Piece.{Piece}
use Rattle.wildcard_lang.specs.declared.piece.Piece.TheVariants.{Lit, LitFold, One, Many, OneNoColon, ManyNoColon}
use Rattle.wildcard_lang.specs.Matching.{takes}
use Rattle.pattern_automata.specs.declared.fronts.Kind.TheVariants.{Passes, Keeps, PassesOthers, Leads}
use Rattle.pattern_automata.specs.declared.moves.Masks.{Masks}
use Rattle.pattern_automata.specs.declared.moves.Patch.{Patch}
use Rattle.pattern_automata.specs.declared.moves.Move.{Move}
use Rattle.pattern_automata.specs.Closed.{names_character, names_any, is_named_character}
use Rattle.pattern_automata.specs.Marks.{mark_count, all_reached}
use Rattle.pattern_automata.specs.Packed.{is_bit_on, word_mark, mark_before, filled_marks, moved_marks, stepped_marks, marks_by, pack, words_for}
use Rattle.pattern_automata.specs.Moves.{takes_others, distinguishes, piece_test, fronts, if_piece, piece_does, IsMasks, IsPatch, IsDistinguished, HasPatch, IsMove}
use Rattle.pattern_automata.specs.Steps.{moved_at, near_at, AreMoved, IsPatched, IsAlike, IsAway, AreMasksOf, AreStepped}
use Rattle.pattern_automata.specs.Search.{LeadsByWords}
use Rattle.pattern_automata.proofs.Empty.{colon-named}
use Rattle.pattern_automata.proofs.Parts.{length-all_reached}
use Rattle.pattern_automata.proofs.Packing.{mark-at, mark-pack, length-pack, packed-from, stepped-same, reached-stepped, moved-word}

-- ---- fronts

pub length-fronts : (ps : List (List Piece)) → length (fronts ps) ≡ mark_count ps
length-fronts [] = refl
length-fronts (p ∷ ps) = omega (arith, length-append (map Some p) (fronts ps), length-map p (λ (q : Piece). Some q), length-fronts ps)

marks-fronts-in : (f : Piece → Bool) (p : List Piece) (rest : List Bool) (more : List (Option Piece)) →
    ((j : ℕ) → get_or rest j false ≡ if_piece f (get_or more j None)) → (j : ℕ) → get_or (map f p ++ rest) j false ≡ if_piece f (get_or (map Some p ++ more) j None)
marks-fronts-in f [] rest more h j = h j
marks-fronts-in f (q ∷ qs) rest more h zero = refl
marks-fronts-in f (q ∷ qs) rest more h (suc j) = marks-fronts-in f qs rest more h j

-- a mark of what a test says is read off the fronts
pub marks-fronts : (f : Piece → Bool) (ps : List (List Piece)) (j : ℕ) → get_or (marks_by f ps) j false ≡ if_piece f (get_or (fronts ps) j None)
marks-fronts f [] j = refl
marks-fronts f (p ∷ ps) zero = refl
marks-fronts f (p ∷ ps) (suc j) = marks-fronts-in f p (marks_by f ps) (fronts ps) (marks-fronts f ps) j

-- ---- pieces that don't tell a character from others

same-of : (a b : Bool) → not (beq a b) ≡ false → a ≡ b
same-of true true h = refl
same-of true false h = absurd (cc)
same-of false true h = absurd (cc)
same-of false false h = refl

passes-alike : (c : ℕ) (x : Option Piece) → if_piece (distinguishes c) x ≡ false → if_piece (piece_test PassesOthers) x ≡ if_piece (piece_test (Passes c)) x
passes-alike c None h = refl
passes-alike c (Some p) h = let e : takes p c ≡ takes_others p = same-of (takes p c) (takes_others p) h in rw e refl

keeps-alike : (c : ℕ) (x : Option Piece) → if_piece (distinguishes c) x ≡ false → if_piece (piece_test Leads) x ≡ if_piece (piece_test (Keeps c)) x
keeps-alike c None h = refl
keeps-alike c (Some (Lit d)) h = refl
keeps-alike c (Some (LitFold d)) h = refl
keeps-alike c (Some One) h = refl
keeps-alike c (Some Many) h = refl
keeps-alike c (Some OneNoColon) h = refl
keeps-alike c (Some ManyNoColon) h = sym (same-of (takes ManyNoColon c) true h)

-- a character that is neither named nor the colon isn't told from others
pub tells-none : (c : ℕ) (p : Piece) → names_character p c ≡ false → eqb c 58 ≡ false → distinguishes c p ≡ false
tells-none c (Lit d) h k = let e : takes (Lit d) c ≡ false = h in rw e refl
tells-none c (LitFold d) h k = let e : takes (LitFold d) c ≡ false = h in rw e refl
tells-none c One h k = refl
tells-none c Many h k = refl
tells-none c OneNoColon h k = rw k refl
tells-none c ManyNoColon h k = rw k refl

untold-in : (c : ℕ) (p : List Piece) (more : List (Option Piece)) → names_any p c ≡ false → eqb c 58 ≡ false → ((j : ℕ) → if_piece (distinguishes c) (get_or more j None) ≡ false) →
    (j : ℕ) → if_piece (distinguishes c) (get_or (map Some p ++ more) j None) ≡ false
untold-in c [] more h k r j = r j
untold-in c (q ∷ qs) more h k r zero = tells-none c q (or_parts (names_character q c) (names_any qs c) h).0 k
untold-in c (q ∷ qs) more h k r (suc j) = untold-in c qs more (or_parts (names_character q c) (names_any qs c) h).1 k r j

pub untold : (ps : List (List Piece)) (c : ℕ) → is_named_character ps c ≡ false → (j : ℕ) → if_piece (distinguishes c) (get_or (fronts ps) j None) ≡ false
untold [] c h j = refl
untold (p ∷ ps) c h zero = refl
untold (p ∷ ps) c h (suc j) =
    let both = or_parts (names_any p c) (is_named_character ps c) h in
    untold-in c p (fronts ps) both.0 (colon-named ps c both.1) (untold ps c both.1) j

-- ---- the masks of a move

front-past : (F : List (Option Piece)) (f : Piece → Bool) (j : ℕ) → length F ≤ j → if_piece f (get_or F j None) ≡ false
front-past F f j h = rw (get_or_past F j None h) refl

module _ (F : List (Option Piece)) (m : Masks) (masks : IsMasks F m) (c : ℕ) (patches : List Patch) (told : IsDistinguished F (length F) c patches) where
  not-told : (k b : ℕ) → (HasPatch patches k → ⊥) → b < 64 → if_piece (distinguishes c) (get_or F (64 * k + b) None) ≡ false
  not-told k b none h =
      elim (cases_Bool (if_piece (distinguishes c) (get_or F (64 * k + b) None))) [
        | inr e ↦ e
        | inl e ↦
            elim (cases_lt (64 * k + b) (length F)) [
              | inl l ↦
                  let q : (64 * k + b) / 64 ≡ k = omega arith in
                  absurd (none (subst (λ (x : ℕ). HasPatch patches x) q (told.covers (64 * k + b) l e)))
              | inr g ↦ front-past F (distinguishes c) (64 * k + b) g
            ]
      ]

  pub masks-of : AreMasksOf m patches (piece_does (Passes c) F) (piece_does (Keeps c) F)
  masks-of = record {
    here = λ k p h e b l. let r : IsPatch F c p = subst (IsPatch F c) e (told.right k p h) in (r.one b l, r.stay b l);
    elsewhere = λ k none b l.
        let no = not-told k b none l in (
          masks.one (64 * k + b) ∙ passes-alike c (get_or F (64 * k + b) None) no,
          masks.many (64 * k + b) ∙ keeps-alike c (get_or F (64 * k + b) None) no,
        );
  }

no-patch : (p : Patch) (ps : List Patch) (k : ℕ) → (p.index ≡ k → ⊥) → (HasPatch ps k → ⊥) → (i : ℕ) (x : Patch) → i < length (p ∷ ps) → get_or (p ∷ ps) i x ≡ x → x.index ≡ k → ⊥
no-patch p ps k ne none zero x h e f = ne (ap (λ (y : Patch). y.index) e ∙ f)
no-patch p ps k ne none (suc i) x h e f = none (i, x, omega arith, e, f)

has-patch : (ps : List Patch) (k : ℕ) → HasPatch ps k ⊎ (HasPatch ps k → ⊥)
has-patch [] k = inr (λ w. absurd (omega (arith, w.2)))
has-patch (p ∷ ps) k =
    elim (cases_eq p.index k) [
      | inl e ↦ inl (0, p, omega arith, refl, e)
      | inr ne ↦
          elim (has-patch ps k) [
            | inl w ↦ inl (suc w.0, w.1, omega (arith, w.2), w.3, w.4)
            | inr none ↦ inr (λ w. no-patch p ps k ne none w.0 w.1 w.2 w.3 w.4)
          ]
    ]

-- what the masks and the patches say they say of both
pub determined : (m : Masks) (patches : List Patch) (one stay other held : ℕ → Bool) → AreMasksOf m patches one stay → AreMasksOf m patches other held → (i : ℕ) → (one i ≡ other i) × (stay i ≡ held i)
determined m patches one stay other held a b i =
    let l : i % 64 < 64 = omega arith in
    elim (has-patch patches (i / 64)) [
      | inl w ↦
          let e : w.1.index ≡ i / 64 = w.4 in
          let at : 64 * w.1.index + i % 64 ≡ i = omega (arith, e) in
          let x = a.here w.0 w.1 w.2 w.3 (i % 64) l in
          let y = b.here w.0 w.1 w.2 w.3 (i % 64) l in (
            subst (λ (n : ℕ). one n ≡ other n) at (sym x.0 ∙ y.0),
            subst (λ (n : ℕ). stay n ≡ held n) at (sym x.1 ∙ y.1),
          )
      | inr none ↦
          let at : 64 * (i / 64) + i % 64 ≡ i = omega arith in
          let x = a.elsewhere (i / 64) none (i % 64) l in
          let y = b.elsewhere (i / 64) none (i % 64) l in (
            subst (λ (n : ℕ). one n ≡ other n) at (sym x.0 ∙ y.0),
            subst (λ (n : ℕ). stay n ≡ held n) at (sym x.1 ∙ y.1),
          )
    ]

-- ---- a step of words

filled-alike : (set more leads : ℕ → Bool) (n : ℕ) → ((i : ℕ) → i < n → set i ≡ more i) → (i : ℕ) → i < n → filled_marks set leads false i ≡ filled_marks more leads false i
filled-alike set more leads n same zero h = rw (same 0 h) refl
filled-alike set more leads n same (suc i) h = rw (same (suc i) h, filled-alike set more leads n same i (omega arith)) refl

module _ (m : Masks) (patches : List Patch) (state : List ℕ) (one stay : ℕ → Bool) (masks : AreMasksOf m patches one stay) where
  -- the moved words of a patch, and where there is none
  moved-patch : (k : ℕ) (p : Patch) → k < length patches → get_or patches k p ≡ p → (b : ℕ) → b < 64 → moved_at p.one p.stay state p.index b ≡ moved_marks one stay (word_mark state) false (64 * p.index + b)
  moved-patch k p h e = moved-word one stay (word_mark state) p.index (is_bit_on p.one) (is_bit_on p.stay) (is_bit_on (get_or state p.index 0)) (mark_before false (word_mark state) (64 * p.index))
      (λ i l. (masks.here k p h e i l).0) (λ i l. (masks.here k p h e i l).1) (λ i l. sym (mark-at state p.index i l)) refl

  moved-other : (k : ℕ) → (HasPatch patches k → ⊥) → (b : ℕ) → b < 64 → moved_at (get_or m.one.items k 0) (get_or m.many.items k 0) state k b ≡ moved_marks one stay (word_mark state) false (64 * k + b)
  moved-other k none = moved-word one stay (word_mark state) k (is_bit_on (get_or m.one.items k 0)) (is_bit_on (get_or m.many.items k 0)) (is_bit_on (get_or state k 0)) (mark_before false (word_mark state) (64 * k))
      (λ i l. sym (mark-at m.one.items k i l) ∙ (masks.elsewhere k none i l).0) (λ i l. sym (mark-at m.many.items k i l) ∙ (masks.elsewhere k none i l).1) (λ i l. sym (mark-at state k i l)) refl

  moved-masks : (k b : ℕ) → b < 64 → moved_at (get_or m.one.items k 0) (get_or m.many.items k 0) state k b ≡ moved_marks (word_mark m.one.items) (word_mark m.many.items) (word_mark state) false (64 * k + b)
  moved-masks k = moved-word (word_mark m.one.items) (word_mark m.many.items) (word_mark state) k (is_bit_on (get_or m.one.items k 0)) (is_bit_on (get_or m.many.items k 0)) (is_bit_on (get_or state k 0)) (mark_before false (word_mark state) (64 * k))
      (λ i l. sym (mark-at m.one.items k i l)) (λ i l. sym (mark-at m.many.items k i l)) (λ i l. sym (mark-at state k i l)) refl

  module _ (old words : List ℕ) (base : AreMoved m state old) (patched : (k : ℕ) → k < length state → IsPatched state patches old words k) where
    word-moved : (k b : ℕ) → k < length state → b < 64 → word_mark words (64 * k + b) ≡ moved_marks one stay (word_mark state) false (64 * k + b)
    word-moved k b h l =
        mark-at words k b l
        ∙ elim (patched k h) [
          | inl w ↦
              let p : Patch = w.1 in
              let at : p.index ≡ k = w.4.0 in
              w.4.1 b l ∙ (rw at at (moved-patch w.0 p w.2 w.3 b l))
          | inr w ↦ ap (λ x. is_bit_on x b) w.0 ∙ (base.marks k b h l ∙ moved-other k w.1 b l)
        ]

    pub all-moved : (j : ℕ) → j < 64 * length state → word_mark words j ≡ moved_marks one stay (word_mark state) false j
    all-moved j h =
        let e : 64 * (j / 64) + j % 64 ≡ j = omega arith in
        rw e at (word-moved (j / 64) (j % 64) (omega arith) (omega arith))

    pub all-filled : (filled-words : List ℕ) → ((j : ℕ) → j < 64 * length state → word_mark filled-words j ≡ filled_marks (word_mark words) (word_mark m.many.items) false j) →
        (j : ℕ) → j < 64 * length state → word_mark filled-words j ≡ stepped_marks one stay (word_mark m.many.items) (word_mark state) j
    all-filled filled-words are j h = are j h ∙ filled-alike (word_mark words) (moved_marks one stay (word_mark state) false) (word_mark m.many.items) (64 * length state) all-moved j h

  -- where each patch moves as the masks do, so does the character
  module _ (alike : All (IsAlike m state) patches) where
    word-alike : (k b : ℕ) → b < 64 → moved_marks one stay (word_mark state) false (64 * k + b) ≡ moved_marks (word_mark m.one.items) (word_mark m.many.items) (word_mark state) false (64 * k + b)
    word-alike k b l =
        elim (has-patch patches k) [
          | inl w ↦
              let p : Patch = w.1 in
              let at : p.index ≡ k = w.4 in
              let same : IsAlike m state p = subst (IsAlike m state) w.3 (alike w.0 p w.2) in
              rw at at (sym (moved-patch w.0 p w.2 w.3 b l) ∙ (same b l ∙ moved-masks p.index b l))
          | inr none ↦ sym (moved-other k none b l) ∙ moved-masks k b l
        ]

    pub moved-alike : (j : ℕ) → moved_marks one stay (word_mark state) false j ≡ moved_marks (word_mark m.one.items) (word_mark m.many.items) (word_mark state) false j
    moved-alike j =
        let e : 64 * (j / 64) + j % 64 ≡ j = omega arith in
        rw e at (word-alike (j / 64) (j % 64) (omega arith))

-- ---- patches that no mark comes near

and-true : (a b : Bool) → b ≡ true → (a && b) ≡ a
and-true true b h = h
and-true false b h = refl

quiet : (f x o s p t : Bool) → f ≡ false → x ≡ false → ((f && o) || (x && s)) ≡ ((f && p) || (x && t))
quiet f x o s p t e g = rw (e, g) refl

same-words : (f x o s p t : Bool) → o ≡ p → s ≡ t → ((f && o) || (x && s)) ≡ ((f && p) || (x && t))
same-words f x o s p t e g = rw (e, g) refl

away-alike : (F : List (Option Piece)) (m : Masks) → IsMasks F m → (c : ℕ) (p : Patch) → IsPatch F c p → (state : List ℕ) → IsAway state p → IsAlike m state p
away-alike F m masks c p patch state away b l =
    let k : ℕ = p.index in
    let own : ℕ = get_or state k 0 in
    let first : Bool = mark_before (mark_before false (word_mark state) (64 * k)) (is_bit_on own) b in
    elim (cases_Bool (is_bit_on p.differs b)) [
      | inl there ↦
          let off : near_at state k b ≡ false = sym (and-true (near_at state k b) (is_bit_on p.differs b) there) ∙ away b l in
          let parts = or_parts (is_bit_on own b) first off in
          quiet first (is_bit_on own b) (is_bit_on p.one b) (is_bit_on p.stay b) (is_bit_on (get_or m.one.items k 0) b) (is_bit_on (get_or m.many.items k 0) b) parts.1 parts.0
      | inr none ↦
          let same = patch.differs b l none in
          let ones : is_bit_on p.one b ≡ is_bit_on (get_or m.one.items k 0) b = patch.one b l ∙ (same.0 ∙ (sym (masks.one (64 * k + b)) ∙ mark-at m.one.items k b l)) in
          let stays : is_bit_on p.stay b ≡ is_bit_on (get_or m.many.items k 0) b = patch.stay b l ∙ (same.1 ∙ (sym (masks.many (64 * k + b)) ∙ mark-at m.many.items k b l)) in
          same-words first (is_bit_on own b) (is_bit_on p.one b) (is_bit_on p.stay b) (is_bit_on (get_or m.one.items k 0) b) (is_bit_on (get_or m.many.items k 0) b) ones stays
    ]

pub all-alike : (F : List (Option Piece)) (m : Masks) → IsMasks F m → (c : ℕ) (ps : List Patch) → All (IsPatch F c) ps → (state : List ℕ) → All (IsAway state) ps → All (IsAlike m state) ps
all-alike F m masks c ps right state away k d h = away-alike F m masks c (get_or ps k d) (right k d h) state (away k d h)

-- ---- a step of marks

module _ (ps : List (List Piece)) (m : Masks) (masks : IsMasks (fronts ps) m) where
  abbrev F : List (Option Piece)
  F = fronts ps

  to-marks : (c : ℕ) (state : List ℕ) (marks : List Bool) → length marks ≡ mark_count ps → state ≡ pack marks → (j : ℕ) →
      stepped_marks (piece_does (Passes c) F) (piece_does (Keeps c) F) (word_mark m.many.items) (word_mark state) j ≡ get_or (all_reached ps marks c) j false
  to-marks c state marks size is j =
      stepped-same _ _ _ _ (λ i. get_or (marks_by (piece_test (Passes c)) ps) i false) (λ i. get_or (marks_by (piece_test (Keeps c)) ps) i false) (λ i. get_or (marks_by (piece_test Leads) ps) i false) (λ i. get_or marks i false) (j + 1)
      (λ i l. sym (marks-fronts (piece_test (Passes c)) ps i)) (λ i l. sym (marks-fronts (piece_test (Keeps c)) ps i))
      (λ i l. masks.many i ∙ sym (marks-fronts (piece_test Leads) ps i)) (λ i l. ap (λ x. word_mark x i) is ∙ mark-pack marks i) j (omega arith)
      ∙ sym (reached-stepped ps marks c size j)

  -- the words of a step are those of the step of the marks
  pub leads : (s : Move) → IsMove F s → (state next : List ℕ) → length next ≡ length state → ((k : ℕ) → k < length next → get_or next k 0 < 18446744073709551616) →
      AreStepped m s.patches.items state next → LeadsByWords ps state s.character next
  leads s move state next count small are marks size is =
      let c : ℕ = s.character in
      let n : ℕ = words_for (length (all_reached ps marks c)) in
      let k : length state ≡ n = ap length is ∙ (length-pack marks ∙ ap words_for (size ∙ sym (length-all_reached ps marks c))) in
      packed-from n (all_reached ps marks c) next (count ∙ k) (λ w h. small w (omega (arith, count, k))) (λ j h.
      are (piece_does (Passes c) F) (piece_does (Keeps c) F) (masks-of F m masks c s.patches.items move.distinguished) j (omega (arith, k)) ∙ to-marks c state marks size is j)

  -- where each patch moves as the masks do, the step is that of a character that isn't named
  pub leads-alike : (s : Move) → IsMove F s → (x : ℕ) → is_named_character ps x ≡ false → (state : List ℕ) → All (IsAlike m state) s.patches.items →
      (marks : List Bool) → length marks ≡ mark_count ps → state ≡ pack marks → pack (all_reached ps marks s.character) ≡ pack (all_reached ps marks x)
  leads-alike s move x new state alike marks size is =
      let c : ℕ = s.character in
      let same : (j : ℕ) → get_or (all_reached ps marks c) j false ≡ get_or (all_reached ps marks x) j false =
      λ j.
      sym (to-marks c state marks size is j)
      ∙ (filled-alike (moved_marks (piece_does (Passes c) F) (piece_does (Keeps c) F) (word_mark state) false) (moved_marks (word_mark m.one.items) (word_mark m.many.items) (word_mark state) false) (word_mark m.many.items) (j + 1)
      (λ i l. moved-alike m s.patches.items state (piece_does (Passes c) F) (piece_does (Keeps c) F) (masks-of F m masks c s.patches.items move.distinguished) alike i) j (omega arith)
      ∙ (stepped-same (word_mark m.one.items) (word_mark m.many.items) (word_mark m.many.items) (word_mark state) (piece_does (Passes x) F) (piece_does (Keeps x) F) (word_mark m.many.items) (word_mark state) (j + 1)
      (λ i l. masks.one i ∙ passes-alike x (get_or F i None) (untold ps x new i)) (λ i l. masks.many i ∙ keeps-alike x (get_or F i None) (untold ps x new i)) (λ i l. refl) (λ i l. refl) j (omega arith)
      ∙ to-marks x state marks size is j)) in
      ap pack (ext_get_or false (all_reached ps marks c) (all_reached ps marks x) (length-all_reached ps marks c ∙ sym (length-all_reached ps marks x)) (λ j h. same j))

  -- two moves with the same patches lead to the same words
  pub moves-alike : (s t : Move) → IsMove F s → IsMove F t → s.patches.items ≡ t.patches.items → (state : List ℕ) (marks : List Bool) → length marks ≡ mark_count ps → state ≡ pack marks →
      pack (all_reached ps marks s.character) ≡ pack (all_reached ps marks t.character)
  moves-alike s t one other same state marks size is =
      let c : ℕ = s.character in
      let d : ℕ = t.character in
      let ms : AreMasksOf m s.patches.items (piece_does (Passes c) F) (piece_does (Keeps c) F) = masks-of F m masks c s.patches.items one.distinguished in
      let mt : AreMasksOf m s.patches.items (piece_does (Passes d) F) (piece_does (Keeps d) F) =
      subst (λ (x : List Patch). AreMasksOf m x (piece_does (Passes d) F) (piece_does (Keeps d) F)) (sym same) (masks-of F m masks d t.patches.items other.distinguished) in
      let alike : (j : ℕ) → get_or (all_reached ps marks c) j false ≡ get_or (all_reached ps marks d) j false =
      λ j.
      sym (to-marks c state marks size is j)
      ∙ (stepped-same (piece_does (Passes c) F) (piece_does (Keeps c) F) (word_mark m.many.items) (word_mark state) (piece_does (Passes d) F) (piece_does (Keeps d) F) (word_mark m.many.items) (word_mark state) (j + 1)
      (λ i l. (determined m s.patches.items _ _ _ _ ms mt i).0) (λ i l. (determined m s.patches.items _ _ _ _ ms mt i).1) (λ i l. refl) (λ i l. refl) j (omega arith)
      ∙ to-marks d state marks size is j) in
      ap pack (ext_get_or false (all_reached ps marks c) (all_reached ps marks d) (length-all_reached ps marks c ∙ sym (length-all_reached ps marks d)) (λ j h. alike j))
