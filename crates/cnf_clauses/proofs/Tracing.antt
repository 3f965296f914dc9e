-- Going back over one decided variable.
use Rattle.std.proofs.Common.{◌≡◌, ℕ, ◌<◌, ◌≤◌, ◌+◌, List, [], ◌∷◌, ◌++◌, length, take, get_or, reverse, Bool, Option, Some, None, inl, inr, sym, ap, subst, ◌∙◌, slice_get, append_assoc}
use Rattle.std.proofs.lemmas.List.{take_more, take-take, reverse-append}
use Rattle.std.proofs.lemmas.Option.{slice_get_within, get_or_from_slice_get}
use Rattle.formula_tree.specs.Answers.{Answers, answer_of}
use Rattle.formula_tree.proofs.Laws.{answer_of-more}
use Rattle.cnf_clauses.specs.declared.explaining.Traced.{Traced}
use Rattle.cnf_clauses.specs.Literals.{Clause, Literal, IsUnit}
use Rattle.cnf_clauses.specs.Explains.{IsNeeded, NeedsAlso, Explains, ExplainsAt, IsTraced, IsNeededReason, IsRefutedAt, Agree}
use Rattle.cnf_clauses.specs.Reasons.{IsReason, HaveReasons}
use Rattle.cnf_clauses.proofs.Explains.{explains-conflict, explains-more, explains-skip, unit-behind}
use Rattle.cnf_clauses.proofs.Extending.{take-answer}
use Rattle.cnf_clauses.proofs.Reasons.{reasons-at}
use Rattle.cnf_clauses.proofs.Settling.{cases_option}

-- the literal at the index comes last
pub known-more : (path d : Answers) (i : ℕ) (l : Literal) → slice_get d i ≡ Some l → path ++ take (i + 1) d ≡ (path ++ take i d) ++ l ∷ []
known-more path d i l there =
    let room : i < length d = slice_get_within d i l there in
    let item : get_or d i l ≡ l = get_or_from_slice_get d i l l there in
    ap (λ (x : Answers). path ++ x) (take_more d i l room ∙ ap (λ (x : Literal). take i d ++ x ∷ []) item) ∙ sym (append_assoc path (take i d) (l ∷ []))

at-reason : (cs : List Clause) (path before : Answers) (l : Literal) (r : Option ℕ) (n : ℕ) → IsReason cs path before l r → r ≡ Some n → (c : Clause) × (slice_get cs n ≡ Some c) × IsUnit before c l
at-reason cs path before l r n reason e = subst (λ (x : Option ℕ). IsReason cs path before l x) e reason

at-answer : (cs : List Clause) (path before : Answers) (l : Literal) (r : Option ℕ) → IsReason cs path before l r → r ≡ None → answer_of path l.0 ≡ Some l.1
at-answer cs path before l r reason e = subst (λ (x : Option ℕ). IsReason cs path before l x) e reason

hints-turned : (old new : List ℕ) (n : ℕ) → new ≡ old ++ n ∷ [] → reverse new ≡ n ∷ reverse old
hints-turned old new n e = ap (λ (x : List ℕ). reverse x) e ∙ reverse-append old (n ∷ [])

pub trace-more : (cs : List Clause) (path d : Answers) (r : List (Option ℕ)) (i : ℕ) (l : Literal) (reason : Option ℕ) (n : ℕ) (old new : Traced) → HaveReasons cs path [] d r → slice_get d i ≡ Some l →
    Agree path (take i d) → reason ≡ get_or r i None → IsNeededReason path old.needed.items l reason (Some n) → ExplainsAt cs path d (i + 1) old → IsTraced cs old n new → ExplainsAt cs path d i new
trace-more cs path d r i l reason n old new reasons there agree read needed later traced =
    let (c, at, u) = at-reason cs path (take i d) l (get_or r i None) n (reasons-at cs path [] d r i l reasons there) (sym read ∙ needed.1) in
    let before : Explains cs ((path ++ take i d) ++ l ∷ []) old.needed.items (reverse old.hints.items) =
    subst (λ (x : Answers). Explains cs x old.needed.items (reverse old.hints.items)) (known-more path d i l there) later in
    let all : Explains cs (path ++ take i d) new.needed.items (n ∷ reverse old.hints.items) =
    explains-more cs (path ++ take i d) l c n old.needed.items new.needed.items (reverse old.hints.items) at (unit-behind path (take i d) c l agree needed.0 u) (traced.needs c at) before in
    subst (λ (x : List ℕ). Explains cs (path ++ take i d) new.needed.items x) (sym (hints-turned old.hints.items new.hints.items n traced.hints)) all

pub trace-skip : (cs : List Clause) (path d : Answers) (r : List (Option ℕ)) (i : ℕ) (l : Literal) (reason : Option ℕ) (old : Traced) → HaveReasons cs path [] d r → slice_get d i ≡ Some l →
    reason ≡ get_or r i None → IsNeededReason path old.needed.items l reason None → ExplainsAt cs path d (i + 1) old → ExplainsAt cs path d i old
trace-skip cs path d r i l reason old reasons there read needed later =
    let before : Explains cs ((path ++ take i d) ++ l ∷ []) old.needed.items (reverse old.hints.items) =
    subst (λ (x : Answers). Explains cs x old.needed.items (reverse old.hints.items)) (known-more path d i l there) later in
    let known : IsNeeded old.needed.items l.0 → (b : Bool) × (answer_of (path ++ take i d) l.0 ≡ Some b) = λ n.
    elim (cases_option (answer_of path l.0)) [
      | inl e ↦ (l.1, answer_of-more path (take i d) l.0 l.1 (at-answer cs path (take i d) l (get_or r i None) (reasons-at cs path [] d r i l reasons there) (sym read ∙ needed n e)))
      | inr (b, e) ↦ (b, answer_of-more path (take i d) l.0 b e)
    ] in
    explains-skip cs (path ++ take i d) l old.needed.items (reverse old.hints.items) known before

pub agree-less : (path d : Answers) (k n : ℕ) → k ≤ n → Agree path (take n d) → Agree path (take k d)
agree-less path d k n less agree v b c p q =
    agree v b c p (take-answer (take n d) k v c (subst (λ (x : Answers). answer_of x v ≡ Some c) (sym (take-take k n d less)) q))

pub trace-first : (cs : List Clause) (known : Answers) (n : ℕ) (old new : Traced) → old.needed.items ≡ [] → old.hints.items ≡ [] → IsRefutedAt cs known n → IsTraced cs old n new →
    Explains cs known new.needed.items (reverse new.hints.items)
trace-first cs known n old new none empty (c, there, all) traced =
    let turned : reverse new.hints.items ≡ n ∷ [] = hints-turned old.hints.items new.hints.items n traced.hints ∙ ap (λ (x : List ℕ). n ∷ reverse x) empty in
    let needs : NeedsAlso c [] new.needed.items = subst (λ (x : List Bool). NeedsAlso c x new.needed.items) none (traced.needs c there) in
    subst (λ (x : List ℕ). Explains cs known new.needed.items x) (sym turned) (explains-conflict cs known c n new.needed.items there all needs)
