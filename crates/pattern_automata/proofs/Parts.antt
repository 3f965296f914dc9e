-- The marks of all patterns in one list: the part of each pattern, and a turn of the loop over them.
use Rattle.std.proofs.Common.{◌≡◌, ℕ, ◌+◌, ◌<◌, ◌≤◌, List, [], ◌∷◌, ◌++◌, length, get_or, Bool, refl, sym, ap, ◌∙◌, arith, take, drop}
use Rattle.std.proofs.lemmas.List.{drop-drop, take_all, append_assoc, append-nil, length-append, take_more, take-append-drop, take_at, drop_at, at_drop_more}
use Rattle.std.proofs.lemmas.Slice.{take-put_mid}
use borrow.Rule.Slice.PartMut.{put_mid}
use Rattle.wildcard_lang.specs.declared.piece.Piece.{Piece}
use Rattle.wildcard_lang.specs.Accepts.{marks_of, marks_reached}
use Rattle.wildcard_lang.proofs.Laws.{length-marks_of, length-marks_reached}
use Rattle.pattern_automata.specs.Marks.{all_marks, all_reached, mark_count}

all_marks-append : (ps qs : List (List Piece)) (t : List ℕ) → all_marks (ps ++ qs) t ≡ all_marks ps t ++ all_marks qs t
all_marks-append [] qs t = refl
all_marks-append (p ∷ ps) qs t = ap (λ x. marks_of p t ++ x) (all_marks-append ps qs t) ∙ sym (append_assoc (marks_of p t) (all_marks ps t) (all_marks qs t))

pub length-all_marks : (ps : List (List Piece)) (t : List ℕ) → length (all_marks ps t) ≡ mark_count ps
length-all_marks [] t = refl
length-all_marks (p ∷ ps) t = length-append (marks_of p t) (all_marks ps t) ∙ rw (length-marks_of p t, length-all_marks ps t) refl

total-append : (ps qs : List (List Piece)) → mark_count (ps ++ qs) ≡ mark_count ps + mark_count qs
total-append [] qs = omega arith
total-append (p ∷ ps) qs = omega (arith, total-append ps qs)

pub length-all_reached : (ps : List (List Piece)) (m : List Bool) (c : ℕ) → length (all_reached ps m c) ≡ mark_count ps
length-all_reached [] m c = refl
length-all_reached (p ∷ ps) m c =
    length-append (marks_reached p (take (length p + 1) m) c) (all_reached ps (drop (length p + 1) m) c) ∙ rw (length-marks_reached p (take (length p + 1) m) c, length-all_reached ps (drop (length p + 1) m) c) refl

all_reached-append : (ps qs : List (List Piece)) (m : List Bool) (c : ℕ) → all_reached (ps ++ qs) m c ≡ all_reached ps m c ++ all_reached qs (drop (mark_count ps) m) c
all_reached-append [] qs m c = refl
all_reached-append (p ∷ ps) qs m c =
    let rest : drop (mark_count ps) (drop (length p + 1) m) ≡ drop (length p + 1 + mark_count ps) m = drop-drop (mark_count ps) (length p + 1) m in
    let ih = all_reached-append ps qs (drop (length p + 1) m) c in
    rw (ih, rest) (sym (append_assoc (marks_reached p (take (length p + 1) m) c) (all_reached ps (drop (length p + 1) m) c) (all_reached qs (drop (length p + 1 + mark_count ps) m) c)))

module _ (ps : List (List Piece)) (i : ℕ) (p : List Piece) (in' : i < length ps) (read : p ≡ get_or ps i p) where
  total-rest : mark_count (drop i ps) ≡ length p + 1 + mark_count (drop (i + 1) ps)
  total-rest = rw (← read) at (at_drop_more mark_count ps i p in')

  -- the part of the pattern at i lies within the marks
  pub total-parts : mark_count (take i ps) + (length p + 1) + mark_count (drop (i + 1) ps) ≡ mark_count ps
  total-parts = omega (arith, total-rest, total-append (take i ps) (drop i ps), ap mark_count (take-append-drop i ps))

  pub total-more : mark_count (take (i + 1) ps) ≡ mark_count (take i ps) + (length p + 1)
  total-more = omega (arith, ap mark_count (take_more ps i p in'), total-append (take i ps) (get_or ps i p ∷ []), ap length (read))

  all_marks-more : (u : List ℕ) → all_marks (take (i + 1) ps) u ≡ all_marks (take i ps) u ++ marks_of p u
  all_marks-more u =
      ap (λ x. all_marks x u) (take_more ps i p in') ∙ (all_marks-append (take i ps) (get_or ps i p ∷ []) u ∙ rw (← read, append-nil (marks_of p u)) refl)

  all_reached-more : (m : List Bool) (c : ℕ) → all_reached (take (i + 1) ps) m c ≡ all_reached (take i ps) m c ++ marks_reached p (take (length p + 1) (drop (mark_count (take i ps)) m)) c
  all_reached-more m c =
      ap (λ x. all_reached x m c) (take_more ps i p in') ∙ (all_reached-append (take i ps) (get_or ps i p ∷ []) m c ∙ rw (← read, append-nil) refl)

  -- one turn: the marks before the part were stepped, and the rest are those of old
  pub turn : (old marks new : List Bool) (c at size end : ℕ) → size ≡ length p + 1 → at ≡ mark_count (take i ps) → end ≡ at + size →
      marks ≡ all_reached (take i ps) old c ++ drop at old → new ≡ marks_reached p (take size (drop at marks)) c →
      put_mid at size marks new ≡ all_reached (take (i + 1) ps) old c ++ drop end old
  turn old marks new c at size end e f g is step =
      let A : List Bool = all_reached (take i ps) old c in
      let la : length A ≡ at = length-all_reached (take i ps) old c ∙ sym f in
      let tail : drop at marks ≡ drop at old = ap (λ x. drop at x) is ∙ drop_at A (drop at old) at la in
      let before : take at marks ≡ A = ap (λ x. take at x) is ∙ take_at A (drop at old) at la in
      let after : drop size (drop at marks) ≡ drop end old = ap (λ x. drop size x) tail ∙ (drop-drop size at old ∙ ap (λ x. drop x old) (sym g)) in
      let part : new ≡ marks_reached p (take (length p + 1) (drop (mark_count (take i ps)) old)) c =
      step ∙ rw (tail, e, f) refl in
      rw (before, after, part, all_reached-more old c) (sym (append_assoc A (marks_reached p (take (length p + 1) (drop (mark_count (take i ps)) old)) c) (drop end old)))

  pub start-turn : (marks new : List Bool) (at size end : ℕ) → size ≡ length p + 1 → end ≡ at + size → at ≤ length marks →
      take at marks ≡ all_marks (take i ps) [] → new ≡ marks_of p [] → take end (put_mid at size marks new) ≡ all_marks (take (i + 1) ps) []
  start-turn marks new at size end e f room is made =
      take-put_mid at size marks new end (omega (arith, ap length made, length-marks_of p [])) room ∙ (rw (is, made, all_marks-more []) refl)

  -- the marks of the pattern, cut out
  pub part : (t : List ℕ) (marks : List Bool) (at size : ℕ) → size ≡ length p + 1 → at ≡ mark_count (take i ps) → marks ≡ all_marks ps t →
      take size (drop at marks) ≡ marks_of p t
  part t marks at size e f is =
      let A : List Bool = all_marks (take i ps) t in
      let M : List Bool = marks_of p t in
      let B : List Bool = all_marks (drop (i + 1) ps) t in
      let rest : all_marks (drop i ps) t ≡ M ++ B = rw (← read) at (at_drop_more (λ x. all_marks x t) ps i p in') in
      let la : length A ≡ at = length-all_marks (take i ps) t ∙ sym f in
      let lm : length M ≡ size = length-marks_of p t ∙ sym e in
      let split : all_marks ps t ≡ A ++ all_marks (drop i ps) t = ap (λ x. all_marks x t) (sym (take-append-drop i ps)) ∙ all_marks-append (take i ps) (drop i ps) t in
      let whole : marks ≡ A ++ (M ++ B) = is ∙ (split ∙ ap (λ x. A ++ x) rest) in
      let tail : drop at marks ≡ M ++ B = ap (λ x. drop at x) whole ∙ drop_at A (M ++ B) at la in
      ap (λ x. take size x) tail ∙ take_at M B size lm

pub start-end : (ps : List (List Piece)) (i at : ℕ) (marks : List Bool) → length ps ≤ i → at ≡ mark_count (take i ps) → length marks ≡ mark_count ps →
    take at marks ≡ all_marks (take i ps) [] → marks ≡ all_marks ps []
start-end ps i at marks h e l is =
    let whole : take i ps ≡ ps = take_all i ps h in
    let all : at ≡ mark_count ps = e ∙ ap mark_count whole in
    sym (take_all at marks (omega arith)) ∙ (is ∙ ap (λ x. all_marks x []) whole)
