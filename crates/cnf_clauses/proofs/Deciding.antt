-- Lists of decided variables: what stands nowhere before its index.
use Rattle.std.proofs.Common.{◌≡◌, ℕ, ◌<◌, ◌+◌, [], ◌∷◌, ◌++◌, length, take, drop, get_or, zero, suc, Bool, false, Some, None, refl, sym, ap, ◌∙◌, arith, nat_eq}
use Rattle.std.proofs.lemmas.Bool.Decides.{nat_tests}
use Rattle.std.proofs.lemmas.Grind.{common_steps}
use Rattle.std.proofs.lemmas.List.{take_more, drop_more, take-append-drop}
use Rattle.std.proofs.lemmas.Option.{slice_get-get_or}
use Rattle.formula_tree.specs.Answers.{Answers, answer_of, IsDistinct}
use Rattle.formula_tree.proofs.Laws.{answer_of-rest}
use Rattle.cnf_clauses.specs.Explains.{IsAnsweredAt}
use Rattle.cnf_clauses.specs.Literals.{Literal}

-- a test of a path stands nowhere before its index
later_differs : (ps : Answers) (n k : ℕ) (d : ℕ × Bool) → answer_of ps n ≡ None → k < length ps → nat_eq n (get_or ps k d).0 ≡ false
later_differs [] n k d new h = absurd (omega arith)
later_differs (p ∷ ps) n zero d new h = grind (arith, common_steps, nat_tests)
later_differs (p ∷ ps) n (suc k) d new h = later_differs ps n k d (grind (arith, common_steps, nat_tests)) (omega arith)

pub fresh_at : (ps : Answers) (k : ℕ) (d : ℕ × Bool) → IsDistinct ps → k < length ps → answer_of (take k ps) (get_or ps k d).0 ≡ None
fresh_at [] k d h l = absurd (omega arith)
fresh_at (p ∷ ps) zero d h l = refl
fresh_at (p ∷ ps) (suc k) d h l =
    let apart = later_differs ps p.0 k d h.0 (omega arith) in
    let rest = fresh_at ps k d h.1 (omega arith) in
    grind (arith, common_steps)

first-answer : (l : Literal) (rest : Answers) (v : ℕ) → l.0 ≡ v → answer_of (l ∷ rest) v ≡ Some l.1
first-answer l rest v e = grind (arith, nat_tests)

same_pair : (l : Literal) (v : ℕ) (b : Bool) → l.0 ≡ v → Some l.1 ≡ Some b → Some l ≡ Some (v, b)
same_pair (n, c) v b e f = cc

-- an index where the variable stands, and stands nowhere before
pub index-there : (d : Answers) (k v : ℕ) (dflt : Literal) → k < length d → answer_of (take k d) v ≡ None → (get_or d k dflt).0 ≡ v → IsAnsweredAt v k d
index-there d k v dflt h before here b known =
    let whole : d ≡ take k d ++ get_or d k dflt ∷ drop (k + 1) d = sym (take-append-drop k d) ∙ ap (λ (x : Answers). take k d ++ x) (drop_more d k dflt h) in
    let at : answer_of d v ≡ Some (get_or d k dflt).1 =
    ap (λ (x : Answers). answer_of x v) whole ∙ answer_of-rest (take k d) (get_or d k dflt ∷ drop (k + 1) d) v before ∙ first-answer (get_or d k dflt) (drop (k + 1) d) v here in
    slice_get-get_or d k dflt h ∙ same_pair (get_or d k dflt) v b here (sym at ∙ known)

single-none : (l : Literal) (v : ℕ) → (l.0 ≡ v → ⊥) → answer_of (l ∷ []) v ≡ None
single-none l v ne = grind (arith, nat_tests)

pub index-more : (d : Answers) (k v : ℕ) (dflt : Literal) → k < length d → answer_of (take k d) v ≡ None → ((get_or d k dflt).0 ≡ v → ⊥) → answer_of (take (k + 1) d) v ≡ None
index-more d k v dflt h before apart =
    ap (λ (x : Answers). answer_of x v) (take_more d k dflt h) ∙ answer_of-rest (take k d) (get_or d k dflt ∷ []) v before ∙ single-none (get_or d k dflt) v apart
