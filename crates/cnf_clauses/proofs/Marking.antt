-- Marks of the variables that a conflict needs, and the answers to them.
use Rattle.std.proofs.Common.{◌≡◌, ℕ, ◌<◌, ◌≤◌, ◌+◌, List, [], ◌∷◌, ◌++◌, length, take, get_or, set, arith, Bool, true, false, None, inl, inr, sym, ap, subst, ◌∙◌, get_or-set_same, get_or-set_other}
use Rattle.std.specs.List.{Contains}
use Rattle.std.proofs.lemmas.List.{take_more, take_all}
use Rattle.std.proofs.lemmas.List.Elements.{Contains-append_left, Contains-push}
use Rattle.formula_tree.specs.Answers.{Answers, answer_of, IsDistinct}
use Rattle.formula_tree.proofs.Laws.{answer_of-besides, cases_eq}
use Rattle.cnf_clauses.specs.Literals.{Clause, Literal}
use Rattle.cnf_clauses.specs.Explains.{IsNeeded, NeedsAlso, AreNeeded, HasSameMarks}
use Rattle.cnf_clauses.proofs.Convex.{open-in, contained-both}
use Rattle.cnf_clauses.proofs.Deciding.{fresh_at}
use Rattle.cnf_clauses.proofs.Explains.{contained-grown, grown-needed, skipped}
use Rattle.cnf_clauses.proofs.Settling.{in_last}

nothing-in : (m : Literal) → Contains [] m → ⊥
nothing-in m (k, h, e) = absurd (omega arith)

last-in : (c : Clause) (l : Literal) → Contains (c ++ l ∷ []) l
last-in c l = Contains-push c l

pub needs-none : (old : List Bool) → NeedsAlso [] old old
needs-none old = record { kept = λ v n. n; named = λ m k. absurd (nothing-in m k); only = λ v n. inl n }

-- a mark more leaves the others
marked-besides : (mid room : List Bool) (w v : ℕ) → HasSameMarks mid room → (v ≡ w → ⊥) → get_or (set room w true) v false ≡ get_or mid v false
marked-besides mid room w v same ne = get_or-set_other room w v true false ne ∙ same v

marked-here : (room : List Bool) (w v : ℕ) → w < length room → v ≡ w → IsNeeded (set room w true) v
marked-here room w v inside e = rw e (get_or-set_same room w true false inside)

marked-kept : (mid room : List Bool) (w : ℕ) → HasSameMarks mid room → w < length room → (v : ℕ) → IsNeeded mid v → IsNeeded (set room w true) v
marked-kept mid room w same inside v n =
    elim (cases_eq v w) [ inl e ↦ marked-here room w v inside e | inr ne ↦ marked-besides mid room w v same ne ∙ n ]

needs-push : (c : Clause) (l : Literal) (old mid room : List Bool) → NeedsAlso c old mid → HasSameMarks mid room → l.0 < length room → NeedsAlso (c ++ l ∷ []) old (set room l.0 true)
needs-push c l old mid room before same inside = record {
  kept = λ v n. marked-kept mid room l.0 same inside v (before.kept v n);
  named = λ m k.
      elim (in_last c l m k) [
        | inl a ↦ marked-kept mid room l.0 same inside m.0 (before.named m a)
        | inr e ↦ marked-here room l.0 m.0 inside (ap (λ (x : Literal). x.0) e)
      ];
  only = λ v n.
      elim (cases_eq v l.0) [
        | inl e ↦ inr (l, (last-in c l), sym e)
        | inr ne ↦ elim (before.only v (sym (marked-besides mid room l.0 v same ne) ∙ n)) [
          | inl a ↦ inl a
          | inr (m, k, e) ↦ inr (m, Contains-append_left c (l ∷ []) m k, e)
        ]
      ];
}

pub needs-step : (c : Clause) (k : ℕ) (l dflt : Literal) (old mid room : List Bool) → k < length c → l ≡ get_or c k dflt → NeedsAlso (take k c) old mid → HasSameMarks mid room → l.0 < length room →
    NeedsAlso (take (k + 1) c) old (set room l.0 true)
needs-step c k l dflt old mid room h read before same inside =
    let front : take (k + 1) c ≡ take k c ++ l ∷ [] = take_more c k dflt h ∙ ap (λ (x : Literal). take k c ++ x ∷ []) (sym read) in
    subst (λ (x : Clause). NeedsAlso x old (set room l.0 true)) (sym front) (needs-push (take k c) l old mid room before same inside)

pub needs-end : (c : Clause) (k : ℕ) (old new : List Bool) → length c ≤ k → NeedsAlso (take k c) old new → NeedsAlso c old new
needs-end c k old new past n = subst (λ (x : Clause). NeedsAlso x old new) (take_all k c past) n

-- ---- the answers of a path to needed variables

pub answers-take : (path : Answers) (needed : List Bool) (used : Answers) (l : Literal) → AreNeeded path needed used → answer_of path l.0 ≡ None → IsNeeded needed l.0 →
    AreNeeded (path ++ l ∷ []) needed (used ++ l ∷ [])
answers-take path needed used l old fresh n = record {
  inside = contained-both used path l old.inside fresh;
  marked = λ v b h.
      elim (cases_eq v l.0) [
        | inl e ↦ subst (λ (x : ℕ). IsNeeded needed x) (sym e) n
        | inr ne ↦ old.marked v b (sym (answer_of-besides used l.0 l.1 v ne) ∙ h)
      ];
  all = grown-needed path used l needed needed old.inside (λ v x. x) old.all;
}

pub answers-skip : (path : Answers) (needed : List Bool) (used : Answers) (l : Literal) → AreNeeded path needed used → (IsNeeded needed l.0 → ⊥) → AreNeeded (path ++ l ∷ []) needed used
answers-skip path needed used l old apart = record {
  inside = contained-grown used path l old.inside;
  marked = old.marked;
  all = λ v b n h. old.all v b n (skipped path l needed (λ x. absurd (apart x)) v b n h);
}

apart_from : (r x : Bool) → r ≡ x → r ≡ false → x ≡ true → ⊥
apart_from r x e f g = let bad : true ≡ false = sym g ∙ sym e ∙ f in absurd (cc)

-- one more answer of the path
pub answers-next : (items : Answers) (k : ℕ) (dflt : Literal) (needed : List Bool) (used new : Answers) (l : Literal) → k < length items → IsDistinct items → l ≡ get_or items k dflt →
    AreNeeded (take k items) needed used → IsNeeded needed l.0 → new ≡ used ++ l ∷ [] → AreNeeded (take (k + 1) items) needed new
answers-next items k dflt needed used new l h distinct read old n grown =
    let front : take (k + 1) items ≡ take k items ++ l ∷ [] = take_more items k dflt h ∙ ap (λ (x : Literal). take k items ++ x ∷ []) (sym read) in
    let fresh : answer_of (take k items) l.0 ≡ None = subst (λ (x : Literal). answer_of (take k items) x.0 ≡ None) (sym read) (fresh_at items k dflt distinct h) in
    let more : AreNeeded (take k items ++ l ∷ []) needed (used ++ l ∷ []) = answers-take (take k items) needed used l old fresh n in
    rw (front, grown) more

pub answers-past : (items : Answers) (k : ℕ) (dflt : Literal) (needed : List Bool) (used : Answers) (r : Bool) → k < length items → AreNeeded (take k items) needed used →
    r ≡ get_or needed (get_or items k dflt).0 false → r ≡ false → AreNeeded (take (k + 1) items) needed used
answers-past items k dflt needed used r h old asked apart =
    rw (take_more items k dflt h) (answers-skip (take k items) needed used (get_or items k dflt) old (apart_from r (get_or needed (get_or items k dflt).0 false) asked apart))

pub used-open : (path : Answers) (needed : List Bool) (used : Answers) (n : ℕ) → AreNeeded path needed used → answer_of path n ≡ None → answer_of used n ≡ None
used-open path needed used n a h = open-in used path n a.inside h
