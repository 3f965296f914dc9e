-- The marks of product states step as those do, so the marks of a text step to those of the text with one more character.
use Rattle.std.proofs.Common.{◌≡◌, ℕ, zero, suc, ◌+◌, ◌<◌, ◌≤◌, List, [], ◌∷◌, ◌++◌, length, get_or, Bool, false, refl, sym, ap, ◌∙◌, arith, take}
use Rattle.std.proofs.lemmas.List.{take_at, drop_at}
use Rattle.wildcard_lang.specs.declared.piece.Piece.{Piece}
use Rattle.wildcard_lang.specs.declared.piece.Piece.TheVariants.{One}
use Rattle.wildcard_lang.specs.Accepts.{accepts, marks_reached, reaches, tests}
use Rattle.wildcard_lang.proofs.Laws.{length-tests, get_or-tests, has-rising, has-places, step_lists-of}
use Rattle.wildcard_lang.specs.Places.{contains_place, step, places_of, lists_of, step_lists}
use Rattle.pattern_automata.specs.Marks.{all_marks, all_reached, marks_from, mark_count}
use Rattle.pattern_automata.specs.Packed.{pack}
use Rattle.pattern_automata.proofs.Parts.{length-all_marks}
use Rattle.pattern_automata.specs.Tree.{LeadsTo}

pub tests-same : (f g : ℕ → Bool) (i k : ℕ) → ((j : ℕ) → i ≤ j → j < i + k → f j ≡ g j) → tests f i k ≡ tests g i k
tests-same f g i zero h = refl
tests-same f g i (suc k) h = rw (h i (omega arith) (omega arith), tests-same f g (i + 1) k (λ j l m. h j (omega arith) (omega arith))) refl

pub reaches-same : (ps : List Piece) (f g : ℕ → Bool) (c : ℕ) → ((i : ℕ) → i ≤ length ps → f i ≡ g i) → (j : ℕ) → j ≤ length ps → reaches ps f c j ≡ reaches ps g c j
reaches-same ps f g c h zero l = refl
reaches-same ps f g c h (suc j) l = rw (h j (omega arith), h (suc j) l, reaches-same ps f g c h j (omega arith)) refl

-- one pattern
reached-list : (p : Piece) (ps : List Piece) (l : List ℕ) (c : ℕ) → marks_reached ps (tests (contains_place l) 0 (length ps + 1)) c ≡ tests (contains_place (step ps l c)) 0 (length ps + 1)
reached-list p ps l c =
    let T : List Bool = tests (contains_place l) 0 (length ps + 1) in
    let at : (i : ℕ) → i ≤ length ps → get_or T i false ≡ contains_place l i =
    λ i h. let z : 0 + i ≡ i = omega arith in get_or-tests (contains_place l) 0 (length ps + 1) i (omega arith) ∙ ap (contains_place l) z in
    tests-same _ _ 0 (length ps + 1) (λ j a b.
    reaches-same ps (λ i. get_or T i false) (contains_place l) c at j (omega arith) ∙ sym (has-rising (reaches ps (contains_place l) c) 0 (length ps + 1) j (omega arith) (omega arith)))

pub reached-from : (ps : List (List Piece)) (lists : List (List ℕ)) (c : ℕ) → length lists ≡ length ps → all_reached ps (marks_from ps lists) c ≡ marks_from ps (step_lists ps lists c)
reached-from [] lists c h = refl
reached-from (p ∷ ps) [] c h = absurd (omega arith)
reached-from (p ∷ ps) (l ∷ ls) c h =
    let T : List Bool = tests (contains_place l) 0 (length p + 1) in
    let n : length T ≡ length p + 1 = length-tests (contains_place l) 0 (length p + 1) in
    rw (take_at T (marks_from ps ls) (length p + 1) n, drop_at T (marks_from ps ls) (length p + 1) n, reached-list One p l c, reached-from ps ls c (omega arith)) refl

pub all_marks-from : (ps : List (List Piece)) (t : List ℕ) → all_marks ps t ≡ marks_from ps (lists_of ps t)
all_marks-from [] t = refl
all_marks-from (p ∷ ps) t =
    rw (tests-same (λ i. accepts (take i p) t) (contains_place (places_of p t)) 0 (length p + 1) (λ j a b. sym (has-places p t j (omega arith))), all_marks-from ps t) refl

length-lists : (ps : List (List Piece)) (t : List ℕ) → length (lists_of ps t) ≡ length ps
length-lists [] t = refl
length-lists (p ∷ ps) t = ap suc (length-lists ps t)

pub reached-marks : (patterns : List (List Piece)) (t : List ℕ) (c : ℕ) → all_reached patterns (all_marks patterns t) c ≡ all_marks patterns (t ++ c ∷ [])
reached-marks patterns t c =
    ap (λ x. all_reached patterns x c) (all_marks-from patterns t)
    ∙ (reached-from patterns (lists_of patterns t) c (length-lists patterns t) ∙ (ap (λ x. marks_from patterns x) (step_lists-of patterns t c) ∙ sym (all_marks-from patterns (t ++ c ∷ []))))

pub leads-to : (patterns : List (List Piece)) (from : List ℕ) (c : ℕ) (to : List ℕ) →
    ((marks : List Bool) → length marks ≡ mark_count patterns → from ≡ pack marks → to ≡ pack (all_reached patterns marks c)) → LeadsTo patterns from c to
leads-to patterns from c to step t e = step (all_marks patterns t) (length-all_marks patterns t) e ∙ ap pack (reached-marks patterns t c)
