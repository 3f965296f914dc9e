-- Packed marks are read off their words, and the step of words is the step of the marks.
use Rattle.std.proofs.Common.{◌≡◌, ℕ, zero, suc, ◌+◌, ◌*◌, ◌/◌, ◌%◌, ◌^◌, ◌-◌, ◌<◌, ◌≤◌, Bool, true, false, not, cond, ◌||◌, ◌&&◌, eqb, refl, sym, ap, ◌∙◌, inl, inr, arith, List, [], ◌∷◌, ◌++◌, length, map, get_or, take, drop}
use Rattle.std.specs.Int.{bit_at}
use Rattle.std.proofs.lemmas.Bool.{cases_lt}
use Rattle.std.proofs.lemmas.Nat.Bits.{bit_at_cat_low, bit_at_cat_high, bit_at-zero}
use Rattle.std.proofs.lemmas.List.{get_or-take, get_or-drop, ext_get_or, get_or_append_left, get_or-append_right, get_or-map, get_or_past, length-drop, length-take, length-append, length-map, get_or_push}
use Rattle.wildcard_lang.specs.declared.piece.Piece.{Piece}
use Rattle.wildcard_lang.specs.declared.piece.Piece.TheVariants.{One}
use Rattle.wildcard_lang.specs.Matching.{takes, is_many}
use Rattle.wildcard_lang.specs.Accepts.{reaches, marks_reached}
use Rattle.wildcard_lang.proofs.Laws.{get_or-marks_reached, length-marks_reached}
use Rattle.pattern_automata.specs.Marks.{mark_count, all_marks, all_reached}
use Rattle.pattern_automata.proofs.Parts.{length-all_marks}
use Rattle.pattern_automata.specs.Packed.{is_bit_on, word_with, words_of_marks, word_mark, mark_before, filled_marks, moved_marks, stepped_marks, marks_by, pack, words_for, all_words}
use Rattle.pattern_automata.specs.Moves.{piece_test}
use Rattle.pattern_automata.specs.declared.fronts.Kind.TheVariants.{Passes, Keeps, Leads}
use Rattle.pattern_automata.proofs.Leading.{reaches-same}
use Rattle.pattern_automata.proofs.Bits.{first-bit, first-small, same-word, word-small}

-- a bit of the number
pub on-word_with : (xs : List Bool) (i : ℕ) → is_bit_on (word_with xs) i ≡ get_or xs i false
on-word_with [] i = ap (λ x. eqb x 1) (bit_at-zero i)
on-word_with (b ∷ bs) zero =
    let e : cond b 1 0 + 2 * word_with bs ≡ word_with bs * 2 ^ 1 + cond b 1 0 = omega arith in
    ap (λ x. is_bit_on x 0) e ∙ (ap (λ x. eqb x 1) (bit_at_cat_low (word_with bs) 1 (cond b 1 0) 0 (omega arith)) ∙ first-bit b)
on-word_with (b ∷ bs) (suc i) =
    let e : cond b 1 0 + 2 * word_with bs ≡ word_with bs * 2 ^ 1 + cond b 1 0 = omega arith in
    let less : suc i - 1 ≡ i = omega arith in
    ap (λ x. is_bit_on x (suc i)) e ∙ (ap (λ x. eqb x 1) (bit_at_cat_high (word_with bs) 1 (cond b 1 0) (suc i) (first-small b) (omega arith) ∙ ap (bit_at (word_with bs)) less) ∙ on-word_with bs i)

-- a mark of the words
pub mark-packed : (n : ℕ) (xs : List Bool) (j : ℕ) → j < 64 * n → word_mark (words_of_marks n xs) j ≡ get_or xs j false
mark-packed zero xs j h = absurd (omega arith)
mark-packed (suc n) xs j h =
    elim (cases_lt j 64) [
      | inl l ↦
          let q : j / 64 ≡ 0 = omega arith in
          let r : j % 64 ≡ j = omega arith in
          rw (q, r) (on-word_with (take 64 xs) j ∙ get_or-take 64 xs j false l)
      | inr g ↦
          let k : ℕ = j - 64 in
          let q : j / 64 ≡ suc (k / 64) = omega arith in
          let r : j % 64 ≡ k % 64 = omega arith in
          let e : 64 + k ≡ j = omega arith in
          rw (q, r) (mark-packed n (drop 64 xs) k (omega arith) ∙ (get_or-drop 64 xs k false ∙ ap (λ m. get_or xs m false) e))
    ]

pub length-packed : (n : ℕ) (xs : List Bool) → length (words_of_marks n xs) ≡ n
length-packed zero xs = refl
length-packed (suc n) xs = ap suc (length-packed n (drop 64 xs))

packed-small : (n : ℕ) (xs : List Bool) (w : ℕ) → w < n → get_or (words_of_marks n xs) w 0 < 18446744073709551616
packed-small zero xs w h = absurd (omega arith)
packed-small (suc n) xs zero h = word-small (take 64 xs) (omega (arith, length-take 64 xs))
packed-small (suc n) xs (suc w) h = packed-small n (drop 64 xs) w (omega arith)

pub mark-at : (words : List ℕ) (w i : ℕ) → i < 64 → word_mark words (64 * w + i) ≡ is_bit_on (get_or words w 0) i
mark-at words w i h =
    let q : (64 * w + i) / 64 ≡ w = omega arith in
    let r : (64 * w + i) % 64 ≡ i = omega arith in
    rw (q, r) refl

-- words with these marks
pub packed-from : (n : ℕ) (xs : List Bool) (words : List ℕ) → length words ≡ n → ((w : ℕ) → w < n → get_or words w 0 < 18446744073709551616) →
    ((j : ℕ) → j < 64 * n → word_mark words j ≡ get_or xs j false) → words ≡ words_of_marks n xs
packed-from n xs words size small are =
    ext_get_or 0 words (words_of_marks n xs) (size ∙ sym (length-packed n xs)) (λ w h.
    let l : w < n = omega (arith, size) in
    same-word (get_or words w 0) (get_or (words_of_marks n xs) w 0) (small w l) (packed-small n xs w l) (λ i k.
    sym (mark-at words w i k) ∙ (are (64 * w + i) (omega arith) ∙ (sym (mark-packed n xs (64 * w + i) (omega arith)) ∙ mark-at (words_of_marks n xs) w i k))))

-- one equation for both cases of a word_with
filled-at : (set leads : ℕ → Bool) (first : Bool) (n : ℕ) → filled_marks set leads first n ≡ (set n || (leads n && mark_before first (filled_marks set leads first) n))
filled-at set leads first zero = refl
filled-at set leads first (suc n) = refl

-- the moved word at k
module _ (one stay old : ℕ → Bool) (k : ℕ) (o s x : ℕ → Bool) (first : Bool) (os : (i : ℕ) → i < 64 → o i ≡ one (64 * k + i)) (ss : (i : ℕ) → i < 64 → s i ≡ stay (64 * k + i))
    (xs : (i : ℕ) → i < 64 → x i ≡ old (64 * k + i)) (fs : first ≡ mark_before false old (64 * k)) where
  pub moved-word : (i : ℕ) → i < 64 → moved_marks o s x first i ≡ moved_marks one stay old false (64 * k + i)
  moved-word zero h =
      let e : 64 * k + 0 ≡ 64 * k = omega arith in
      rw (os 0 h, ss 0 h, xs 0 h, fs, e) refl
  moved-word (suc i) h =
      let e : 64 * k + suc i ≡ suc (64 * k + i) = omega arith in
      rw (os (suc i) h, ss (suc i) h, xs (suc i) h, xs i (omega arith), e) refl

-- the filled word at k
module _ (set leads : ℕ → Bool) (k : ℕ) (s l : ℕ → Bool) (below : Bool) (ss : (i : ℕ) → i < 64 → s i ≡ set (64 * k + i))
    (ls : (i : ℕ) → i < 64 → l i ≡ leads (64 * k + i)) (bs : below ≡ mark_before false (filled_marks set leads false) (64 * k)) where
  filled-word : (i : ℕ) → i < 64 → filled_marks s l below i ≡ filled_marks set leads false (64 * k + i)
  filled-word zero h =
      let e : 64 * k + 0 ≡ 64 * k = omega arith in
      rw (ss 0 h, ls 0 h, bs, e) (sym (filled-at set leads false (64 * k)))
  filled-word (suc i) h =
      let e : 64 * k + suc i ≡ suc (64 * k + i) = omega arith in
      rw (ss (suc i) h, ls (suc i) h, filled-word i (omega arith), e) refl

-- one more word
pub words-small : (old : List ℕ) (k word : ℕ) → length old ≡ k → word < 18446744073709551616 → ((j : ℕ) → j < length old → get_or old j 0 < 18446744073709551616) →
    (j : ℕ) → j < length (old ++ word ∷ []) → get_or (old ++ word ∷ []) j 0 < 18446744073709551616
words-small old k word count fits small j h =
    elim (cases_lt j k) [
      | inl l ↦ rw (get_or_append_left old (word ∷ []) 0 j (omega (arith, count))) (small j (omega (arith, count)))
      | inr g ↦
          let e : j ≡ k = omega (arith, length-append old (word ∷ []), count) in
          rw (e, get_or_push old word 0 k count) fits
    ]

pub marks-push : (f : ℕ → Bool) (k : ℕ) (old : List ℕ) (word : ℕ) → length old ≡ k → ((b : ℕ) → b < 64 → is_bit_on word b ≡ f (64 * k + b)) → ((j : ℕ) → j < 64 * k → word_mark old j ≡ f j) →
    (j : ℕ) → j < 64 * (k + 1) → word_mark (old ++ word ∷ []) j ≡ f j
marks-push f k old word count made marks j h =
    elim (cases_lt j (64 * k)) [
      | inl l ↦ ap (λ x. is_bit_on x (j % 64)) (get_or_append_left old (word ∷ []) 0 (j / 64) (omega (arith, count))) ∙ marks j l
      | inr g ↦
          let i : ℕ = j - 64 * k in
          let e : j ≡ 64 * k + i = omega arith in
          let l : i < 64 = omega arith in
          rw e (mark-at (old ++ word ∷ []) k i l ∙ (ap (λ x. is_bit_on x i) (get_or_push old word 0 k count) ∙ made i l))
    ]

-- one more word that is filled
module _ (set leads : List ℕ) (k : ℕ) (old : List ℕ) (word : ℕ) (below : Bool) (count : length old ≡ k) (small : (j : ℕ) → j < length old → get_or old j 0 < 18446744073709551616)
    (marks : (j : ℕ) → j < 64 * k → word_mark old j ≡ filled_marks (word_mark set) (word_mark leads) false j)
    (bs : below ≡ mark_before false (filled_marks (word_mark set) (word_mark leads) false) (64 * k)) (fits : word < 18446744073709551616)
    (made : (i : ℕ) → i < 64 → is_bit_on word i ≡ filled_marks (is_bit_on (get_or set k 0)) (is_bit_on (get_or leads k 0)) below i) where
  abbrev G : ℕ → Bool
  G = filled_marks (word_mark set) (word_mark leads) false

  new-word : (i : ℕ) → i < 64 → is_bit_on word i ≡ G (64 * k + i)
  new-word i h =
      made i h
      ∙ filled-word (word_mark set) (word_mark leads) k (is_bit_on (get_or set k 0)) (is_bit_on (get_or leads k 0)) below
      (λ i h. sym (mark-at set k i h)) (λ i h. sym (mark-at leads k i h)) bs i h

  next-marks : (j : ℕ) → j < 64 * (k + 1) → word_mark (old ++ word ∷ []) j ≡ G j
  next-marks = marks-push G k old word count new-word marks

  next-below : is_bit_on word 63 ≡ mark_before false G (64 * (k + 1))
  next-below =
      let e : 64 * (k + 1) ≡ suc (64 * k + 63) = omega arith in
      rw e (new-word 63 (omega arith))

  pub fill-next : (new : List ℕ) (b : Bool) → new ≡ old ++ word ∷ [] → b ≡ is_bit_on word 63 →
      (length new ≡ k + 1) × ((j : ℕ) → j < length new → get_or new j 0 < 18446744073709551616)
      × ((j : ℕ) → j < 64 * (k + 1) → word_mark new j ≡ filled_marks (word_mark set) (word_mark leads) false j)
      × (b ≡ mark_before false (filled_marks (word_mark set) (word_mark leads) false) (64 * (k + 1)))
  fill-next new b is be =
      rw is (omega (arith, length-append old (word ∷ []), count), words-small old k word count fits small, next-marks, be ∙ next-below)

nothing : (a b : Bool) → ((a && false) || (b && false)) ≡ false
nothing true true = refl
nothing true false = refl
nothing false true = refl
nothing false false = refl

-- a step starts anew where nothing is passed on
module _ (one stay leads old o s l x : ℕ → Bool) (n : ℕ) (os : (k : ℕ) → one (n + k) ≡ o k) (ss : (k : ℕ) → stay (n + k) ≡ s k) (ls : (k : ℕ) → leads (n + k) ≡ l k) (xs : (k : ℕ) → old (n + k) ≡ x k)
    (no : o 0 ≡ false) (ns : s 0 ≡ false) (nl : l 0 ≡ false) where
  pub starts-anew : (k : ℕ) → stepped_marks one stay leads old (n + k) ≡ stepped_marks o s l x k
  starts-anew zero =
      filled-at (moved_marks one stay old false) leads false (n + 0)
      ∙ (rw (os 0, ss 0, ls 0, no, ns, nl, nothing (mark_before false old (n + 0)) (old (n + 0)), nothing false (x 0)) refl)
  starts-anew (suc k) =
      let e : n + suc k ≡ suc (n + k) = omega arith in
      let ek : old (n + k) ≡ x k = xs k in
      let es : stepped_marks one stay leads old (n + k) ≡ stepped_marks o s l x k = starts-anew k in
      let a : one (suc (n + k)) ≡ o (suc k) = rw e at (os (suc k)) in
      let b : stay (suc (n + k)) ≡ s (suc k) = rw e at (ss (suc k)) in
      let d : leads (suc (n + k)) ≡ l (suc k) = rw e at (ls (suc k)) in
      let f : old (suc (n + k)) ≡ x (suc k) = rw e at (xs (suc k)) in
      rw (e, a, b, d, f, ek, es) refl

first-mark : (f : Piece → Bool) (ps : List (List Piece)) → get_or (marks_by f ps) 0 false ≡ false
first-mark f [] = refl
first-mark f (p ∷ ps) = refl

-- the marks of the first pattern, and those of the others
module _ (f : Piece → Bool) (p : List Piece) (rest : List Bool) where
  pub mine : (j : ℕ) → j < length p → get_or (false ∷ (map f p ++ rest)) (suc j) false ≡ f (get_or p j One)
  mine j h = get_or_append_left (map f p) rest false j (omega (arith, length-map p f)) ∙ get_or-map f p j One false h

  pub others : (k : ℕ) → get_or (false ∷ (map f p ++ rest)) (length p + 1 + k) false ≡ get_or rest k false
  others k =
      let e : length p + 1 + k ≡ suc (length p + k) = omega arith in
      let d : length p + k - length p ≡ k = omega arith in
      rw e (get_or-append_right (map f p) rest (length p) (length p + k) false (length-map p f) (omega arith) ∙ ap (λ i. get_or rest i false) d)

marks-same : (m t a b w : Bool) → cond m ((t && b) || w) (t && a) ≡ (((a && (not m && t)) || (b && (m && t))) || (m && w))
marks-same true true true true w = refl
marks-same true true true false w = refl
marks-same true true false true w = refl
marks-same true true false false w = refl
marks-same true false true true w = refl
marks-same true false true false w = refl
marks-same true false false true w = refl
marks-same true false false false w = refl
marks-same false true true true w = refl
marks-same false true true false w = refl
marks-same false true false true w = refl
marks-same false true false false w = refl
marks-same false false true true w = refl
marks-same false false true false w = refl
marks-same false false false true w = refl
marks-same false false false false w = refl

module _ (p : List Piece) (ps : List (List Piece)) (marks : List Bool) (c : ℕ) where
  abbrev O : ℕ → Bool
  O i = get_or (marks_by (piece_test (Passes c)) (p ∷ ps)) i false

  abbrev S : ℕ → Bool
  S i = get_or (marks_by (piece_test (Keeps c)) (p ∷ ps)) i false

  abbrev M : ℕ → Bool
  M i = get_or (marks_by (piece_test Leads) (p ∷ ps)) i false

  abbrev X : ℕ → Bool
  X i = get_or marks i false

  one-pattern : (j : ℕ) → j ≤ length p → reaches p X c j ≡ stepped_marks O S M X j
  one-pattern zero h = rw (nothing false (X 0)) refl
  one-pattern (suc j) h =
      let l : j < length p = omega arith in
      let q : Piece = get_or p j One in
      marks-same (is_many q) (takes q c) (X j) (X (suc j)) (reaches p X c j)
      ∙ rw (mine (piece_test (Passes c)) p (marks_by (piece_test (Passes c)) ps) j l, mine (piece_test (Keeps c)) p (marks_by (piece_test (Keeps c)) ps) j l, mine (piece_test Leads) p (marks_by (piece_test Leads) ps) j l, sym (one-pattern j (omega arith))) refl

none : (xs : ℕ → Bool) (j : ℕ) → false ≡ stepped_marks (λ k. false) (λ k. false) (λ k. false) xs j
none xs zero = rw (nothing false (xs 0)) refl
none xs (suc j) = rw (nothing (xs j) (xs (suc j))) refl

-- the step of the marks of all patterns
pub reached-stepped : (ps : List (List Piece)) (marks : List Bool) (c : ℕ) → length marks ≡ mark_count ps → (j : ℕ) →
    get_or (all_reached ps marks c) j false ≡ stepped_marks (λ i. get_or (marks_by (piece_test (Passes c)) ps) i false) (λ i. get_or (marks_by (piece_test (Keeps c)) ps) i false) (λ i. get_or (marks_by (piece_test Leads) ps) i false) (λ i. get_or marks i false) j
reached-stepped [] marks c size j = none (λ i. get_or marks i false) j
reached-stepped (p ∷ ps) marks c size j =
    let n : ℕ = length p + 1 in
    let A : List Bool = marks_reached p (take n marks) c in
    let B : List Bool = all_reached ps (drop n marks) c in
    let la : length A ≡ n = length-marks_reached p (take n marks) c in
    elim (cases_lt j n) [
      | inl l ↦
          get_or_append_left A B false j (omega (arith, la))
          ∙ (get_or-marks_reached p (take n marks) c j (omega arith)
          ∙ (reaches-same p (λ i. get_or (take n marks) i false) (λ i. get_or marks i false) c (λ i h. get_or-take n marks i false (omega arith)) j (omega arith)
          ∙ one-pattern p ps marks c j (omega arith)))
      | inr g ↦
          let k : ℕ = j - n in
          let e : n + k ≡ j = omega arith in
          get_or-append_right A B n j false la g
          ∙ (reached-stepped ps (drop n marks) c (omega (arith, length-drop n marks, size)) k
          ∙ (sym (starts-anew (O p ps marks c) (S p ps marks c) (M p ps marks c) (X p ps marks c) (λ i. get_or (marks_by (piece_test (Passes c)) ps) i false) (λ i. get_or (marks_by (piece_test (Keeps c)) ps) i false) (λ i. get_or (marks_by (piece_test Leads) ps) i false) (λ i. get_or (drop n marks) i false) n
          (others (piece_test (Passes c)) p (marks_by (piece_test (Passes c)) ps)) (others (piece_test (Keeps c)) p (marks_by (piece_test (Keeps c)) ps)) (others (piece_test Leads) p (marks_by (piece_test Leads) ps)) (λ i. sym (get_or-drop n marks i false))
          (first-mark (piece_test (Passes c)) ps) (first-mark (piece_test (Keeps c)) ps) (first-mark (piece_test Leads) ps) k)
          ∙ ap (stepped_marks (O p ps marks c) (S p ps marks c) (M p ps marks c) (X p ps marks c)) e))
    ]

pub stepped-same : (one stay leads old o s l x : ℕ → Bool) (n : ℕ) → ((j : ℕ) → j < n → one j ≡ o j) → ((j : ℕ) → j < n → stay j ≡ s j) → ((j : ℕ) → j < n → leads j ≡ l j) → ((j : ℕ) → j < n → old j ≡ x j) →
    (j : ℕ) → j < n → stepped_marks one stay leads old j ≡ stepped_marks o s l x j
stepped-same one stay leads old o s l x n os ss ls xs zero h = rw (ss 0 h, ls 0 h, xs 0 h) refl
stepped-same one stay leads old o s l x n os ss ls xs (suc j) h =
    rw (os (suc j) h, ss (suc j) h, ls (suc j) h, xs (suc j) h, xs j (omega arith), stepped-same one stay leads old o s l x n os ss ls xs j (omega arith)) refl

-- a mark of packed marks
pub mark-pack : (xs : List Bool) (j : ℕ) → word_mark (pack xs) j ≡ get_or xs j false
mark-pack xs j =
    elim (cases_lt j (64 * words_for (length xs))) [
      | inl l ↦ mark-packed (words_for (length xs)) xs j l
      | inr g ↦
          let past : get_or (pack xs) (j / 64) 0 ≡ 0 = get_or_past (pack xs) (j / 64) 0 (omega (arith, length-packed (words_for (length xs)) xs)) in
          rw past (ap (λ x. eqb x 1) (bit_at-zero (j % 64)) ∙ sym (get_or_past xs j false (omega arith)))
    ]

pub length-pack : (xs : List Bool) → length (pack xs) ≡ words_for (length xs)
length-pack xs = length-packed (words_for (length xs)) xs

pub length-all_words : (ps : List (List Piece)) (t : List ℕ) → length (all_words ps t) ≡ words_for (mark_count ps)
length-all_words ps t = length-pack (all_marks ps t) ∙ ap words_for (length-all_marks ps t)

pub pack-same : (a b : List Bool) → length a ≡ length b → pack a ≡ pack b → a ≡ b
pack-same a b same e =
    ext_get_or false a b same (λ j h. sym (mark-pack a j) ∙ (ap (λ x. word_mark x j) e ∙ mark-pack b j))

pub length-marks_by : (f : Piece → Bool) (ps : List (List Piece)) → length (marks_by f ps) ≡ mark_count ps
length-marks_by f [] = refl
length-marks_by f (p ∷ ps) = omega (arith, length-append (map f p) (marks_by f ps), length-map p f, length-marks_by f ps)
