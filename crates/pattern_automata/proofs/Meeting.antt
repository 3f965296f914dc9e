-- The last mark of each pattern says whether it matches, so the marks of a text meet the clauses exactly where the text does.
use Rattle.std.proofs.Common.{◌≡◌, ℕ, zero, suc, ◌+◌, ◌<◌, List, [], ◌∷◌, ◌++◌, length, get_or, false, refl, ap, ◌∙◌, inl, inr, arith, take, All}
use Rattle.std.proofs.lemmas.Bool.{cases_lt}
use Rattle.std.proofs.lemmas.List.{take_all, get_or-append-add, get_or_append_left, get_or_push, get_or_default}
use Rattle.wildcard_lang.specs.declared.piece.Piece.{Piece}
use Rattle.wildcard_lang.specs.Accepts.{accepts, marks_of}
use Rattle.wildcard_lang.proofs.Laws.{length-marks_of, get_or-marks_of}
use Rattle.pattern_automata.specs.declared.wants.Literal.{Literal}
use Rattle.pattern_automata.specs.Closed.{text_meets, InRange}
use Rattle.pattern_automata.specs.Marks.{all_marks, mark_count}
use Rattle.pattern_automata.specs.Tree.{IsEnds, words_meet}
use Rattle.pattern_automata.specs.Packed.{all_words}
use Rattle.pattern_automata.proofs.Packing.{mark-pack}
use Rattle.pattern_automata.proofs.Parts.{total-parts}
use Rattle.pattern_automata.proofs.Empty.{clauses_hold-same}

-- one more pattern
pub ends-more : (ps : List (List Piece)) (i : ℕ) (p : List Piece) (ends new : List ℕ) (end : ℕ) → i < length ps → p ≡ get_or ps i p →
    new ≡ ends ++ end ∷ [] → end ≡ mark_count (take i ps) + length p → length ends ≡ i →
    ((k : ℕ) → k < i → get_or ends k 0 ≡ mark_count (take k ps) + length (get_or ps k [])) →
    (k : ℕ) → k < i + 1 → get_or new k 0 ≡ mark_count (take k ps) + length (get_or ps k [])
ends-more ps i p ends new end in' read is at n old k h =
    elim (cases_lt k i) [
      | inl s ↦ rw is (get_or_append_left ends (end ∷ []) 0 k (omega arith) ∙ old k s)
      | inr g ↦
          let e : k ≡ i = omega arith in
          let q : p ≡ get_or ps i [] = read ∙ get_or_default ps i p [] in' in
          rw (e, is, get_or_push ends end 0 i n, at, ← q) refl
    ]

-- the last mark of a pattern
last-mark : (ps : List (List Piece)) (t : List ℕ) (k : ℕ) → k < length ps →
    get_or (all_marks ps t) (mark_count (take k ps) + length (get_or ps k [])) false ≡ accepts (get_or ps k []) t
last-mark [] t k h = absurd (omega arith)
last-mark (p ∷ ps) t zero h =
    let z : 0 + length p ≡ length p = omega arith in
    rw (z, get_or_append_left (marks_of p t) (all_marks ps t) false (length p) (omega (arith, length-marks_of p t)), get_or-marks_of p t (length p) (omega arith), take_all (length p) p (omega arith)) refl
last-mark (p ∷ ps) t (suc k) h =
    let e : length p + 1 + mark_count (take k ps) + length (get_or ps k []) ≡ length (marks_of p t) + (mark_count (take k ps) + length (get_or ps k [])) = omega (arith, length-marks_of p t) in
    rw (e, get_or-append-add (marks_of p t) (all_marks ps t) (mark_count (take k ps) + length (get_or ps k [])) false) (last-mark ps t k (omega arith))

pub words_meet-meets : (ps : List (List Piece)) (ends : List ℕ) (clauses : List (List Literal)) (t : List ℕ) → IsEnds ps ends → InRange (length ps) clauses →
    words_meet ends clauses (all_words ps t) ≡ text_meets ps clauses t
words_meet-meets ps ends clauses t are range =
    clauses_hold-same _ _ (length ps) (λ i h. mark-pack (all_marks ps t) (get_or ends i 0) ∙ (ap (λ x. get_or (all_marks ps t) x false) (are.each i h) ∙ last-mark ps t i h)) clauses range

-- each end lies within the marks
pub ends-within : (ps : List (List Piece)) (ends : List ℕ) → IsEnds ps ends → All (λ e. e < mark_count ps) ends
ends-within ps ends are k d h =
    let in' : k < length ps = omega (arith, are.count) in
    omega (arith, are.each k in', total-parts ps k (get_or ps k []) in' (get_or_default ps k [] (get_or ps k []) in'), get_or_default ends k d 0 h)
