-- Indexes that grow.
use Rattle.std.proofs.Common.{◌≡◌, ℕ, ◌<◌, ◌+◌, List, [], ◌∷◌, ◌++◌, length, take, get_or, set, Bool, true, false, Some, ◌⊎◌, inl, inr, sym, ap, subst, ◌∙◌, arith, get_or-set_same, get_or-set_other, length-append, slice_get, Result, Ok, Err}
use Rattle.std.specs.List.{Contains}
use Rattle.std.specs.Prelude.{OnOk}
use Rattle.std.proofs.lemmas.List.{take_more, get_or_append_left, get_or_default}
use Rattle.std.proofs.lemmas.Option.{get_or_from_slice_get, slice_get-get_or, slice_get_within}
use Rattle.std.proofs.Math.Seq.{get_or-append_seam}
use Rattle.formula_tree.proofs.Laws.{cases_eq}
use Rattle.cnf_clauses.specs.declared.index.Index.{Index}
use Rattle.cnf_clauses.specs.Literals.{Clause, Literal}
use Rattle.cnf_clauses.specs.Indexes.{lists_at, held_at, HasEqual, HasTwoLiterals, IsIndexedWith, StandInIndex, StandsAgain}
use Rattle.cnf_clauses.proofs.Scanning.{in_more}

-- a list with more numbers, put back among its lists
pub number-kept : (old lists : List (List ℕ)) (v : ℕ) (ns more : List ℕ) → v < length lists → ((w : ℕ) → get_or lists w [] ≡ get_or old w []) → ns ≡ get_or lists v ns →
    ((i : ℕ) → Contains ns i → Contains more i) → (w i : ℕ) → Contains (get_or old w []) i → Contains (get_or (set lists v more) w []) i
number-kept old lists v ns more room same read kept w i stands =
    elim (cases_eq w v) [
      | inl here_now ↦
          let held : get_or old w [] ≡ ns = sym (same w) ∙ ap (λ (x : ℕ). get_or lists x []) here_now ∙ get_or_default lists v [] ns room ∙ sym read in
          let here : Contains ns i = subst (λ (x : List ℕ). Contains x i) held stands in
          rw (here_now, get_or-set_same lists v more [] room) (kept i here)
      | inr ne ↦
          let held : get_or old w [] ≡ get_or (set lists v more) w [] = sym (same w) ∙ sym (get_or-set_other lists v w more [] ne) in
          subst (λ (x : List ℕ). Contains x i) held stands
    ]

-- one more literal of a clause
pub named-more : (before after : Index) (lits : Clause) (k number : ℕ) (dflt : Literal) → k < length lits →
    ((m : Literal) → Contains (take k lits) m → Contains (held_at before m) number) → ((m : Literal) (i : ℕ) → Contains (held_at before m) i → Contains (held_at after m) i) →
    Contains (held_at after (get_or lits k dflt)) number → (m : Literal) → Contains (take (k + 1) lits) m → Contains (held_at after m) number
named-more before after lits k number dflt h named kept here m c =
    let parts : Contains (take k lits) m ⊎ (m ≡ get_or lits k dflt) = in_more (take k lits) (get_or lits k dflt) m (rw (take_more lits k dflt h) at c) in
    elim parts [ inl a ↦ kept m number (named m a) | inr e ↦ rw e here ]

clause-same : (clauses : List Clause) (i k : ℕ) (c d : Clause) → i ≡ k → slice_get clauses i ≡ Some d → c ≡ get_or clauses k c → d ≡ c
clause-same clauses i k c d e found read =
    let there : slice_get clauses k ≡ Some d = subst (λ (x : ℕ). slice_get clauses x ≡ Some d) e found in
    sym (get_or_from_slice_get clauses k d c there) ∙ sym read

-- one more clause
pub indexed-more : (clauses : List Clause) (before after : Index) (k : ℕ) (c : Clause) → c ≡ get_or clauses k c → StandInIndex clauses before k →
    ((m : Literal) → Contains c m → Contains (held_at after m) k) → ((m : Literal) (i : ℕ) → Contains (held_at before m) i → Contains (held_at after m) i) →
    HasTwoLiterals c ⊎ Contains after.short k → ((i : ℕ) → Contains before.short i → Contains after.short i) → StandInIndex clauses after (k + 1)
indexed-more clauses before after k c read old named kept short kept_short = record {
  held = λ i d l h found stands.
      elim (cases_eq i k) [
        | inl e ↦
            let same : d ≡ c = clause-same clauses i k c d e found read in
            let here : Contains (held_at after l) i = rw e (named l (rw same at stands)) in
            (i, here, found)
        | inr ne ↦ let w = old.held i d l (omega arith) found stands in (w.0, kept l w.0 w.1, w.2)
      ];
  short = λ i d h found.
      elim (cases_eq i k) [
        | inl e ↦ let same : d ≡ c = clause-same clauses i k c d e found read in rw (e, same) short
        | inr ne ↦ elim (old.short i d (omega arith) found) [ inl two ↦ inl two | inr a ↦ inr (kept_short i a) ]
      ];
}

pub on_ok : {X E : Type 0} (r : Result X E) (P Q : Type 0) → (P → Q) → OnOk r P → OnOk r Q
on_ok (Ok x) P Q f h = f h
on_ok (Err e) P Q f h = tt

-- the lists have changed at one of the two values
yes-kept : (at_yes at_no more : List (List ℕ)) → ((v i : ℕ) → Contains (get_or at_yes v []) i → Contains (get_or more v []) i) → (b : Bool) (v i : ℕ) → Contains (get_or (lists_at at_yes at_no b) v []) i → Contains (get_or (lists_at more at_no b) v []) i
yes-kept at_yes at_no more kept true v i h = kept v i h
yes-kept at_yes at_no more kept false v i h = h

no-kept : (at_yes at_no more : List (List ℕ)) → ((v i : ℕ) → Contains (get_or at_no v []) i → Contains (get_or more v []) i) → (b : Bool) (v i : ℕ) → Contains (get_or (lists_at at_yes at_no b) v []) i → Contains (get_or (lists_at at_yes more b) v []) i
no-kept at_yes at_no more kept true v i h = h
no-kept at_yes at_no more kept false v i h = kept v i h

pub literal-yes : {X E : Type 0} (r : Result X E) (at_yes at_no more : List (List ℕ)) → OnOk r ((v i : ℕ) → Contains (get_or at_yes v []) i → Contains (get_or more v []) i) →
    OnOk r ((l : Literal) (i : ℕ) → Contains (get_or (lists_at at_yes at_no l.1) l.0 []) i → Contains (get_or (lists_at more at_no l.1) l.0 []) i)
literal-yes r at_yes at_no more h = on_ok r _ _ (λ (kept : (v i : ℕ) → Contains (get_or at_yes v []) i → Contains (get_or more v []) i). λ l i n. yes-kept at_yes at_no more kept l.1 l.0 i n) h

pub literal-no : {X E : Type 0} (r : Result X E) (at_yes at_no more : List (List ℕ)) → OnOk r ((v i : ℕ) → Contains (get_or at_no v []) i → Contains (get_or more v []) i) →
    OnOk r ((l : Literal) (i : ℕ) → Contains (get_or (lists_at at_yes at_no l.1) l.0 []) i → Contains (get_or (lists_at at_yes more l.1) l.0 []) i)
literal-no r at_yes at_no more h = on_ok r _ _ (λ (kept : (v i : ℕ) → Contains (get_or at_no v []) i → Contains (get_or more v []) i). λ l i n. no-kept at_yes at_no more kept l.1 l.0 i n) h

pub named-at : {X E : Type 0} (r : Result X E) (at_yes at_no : List (List ℕ)) (l : Literal) (b : Bool) (i : ℕ) → l.1 ≡ b → OnOk r (Contains (get_or (lists_at at_yes at_no b) l.0 []) i) → OnOk r (Contains (get_or (lists_at at_yes at_no l.1) l.0 []) i)
named-at r at_yes at_no l b i e h = subst (λ (x : Bool). OnOk r (Contains (get_or (lists_at at_yes at_no x) l.0 []) i)) (sym e) h

pub names-at : (at_yes at_no : List (List ℕ)) (l : Literal) (b : Bool) (i : ℕ) (ps : List ℕ) → l.1 ≡ b → ps ≡ get_or (lists_at at_yes at_no b) l.0 [] → Contains (get_or (lists_at at_yes at_no l.1) l.0 []) i → Contains ps i
names-at at_yes at_no l b i ps e f h =
    let here : Contains (get_or (lists_at at_yes at_no b) l.0 []) i = subst (λ (x : Bool). Contains (get_or (lists_at at_yes at_no x) l.0 []) i) e h in
    subst (λ (x : List ℕ). Contains x i) (sym f) here

pub indexed-none : (clauses : List Clause) (index : Index) → StandInIndex clauses index 0
indexed-none clauses index = record { held = λ i c l h found stands. absurd (omega arith); short = λ i c h found. absurd (omega arith) }

-- one more clause of those that are indexed
pub indexed-step : (clauses : List Clause) (before after : Index) (k : ℕ) (c : Clause) → c ≡ get_or clauses k c → StandInIndex clauses before k → IsIndexedWith before c k after → StandInIndex clauses after (k + 1)
indexed-step clauses before after k c read old more = indexed-more clauses before after k c read old more.held more.kept more.short more.kept_short

-- a clause that stands again isn't noted at its literals
pub indexed-again : (clauses : List Clause) (before after : Index) (k : ℕ) (c : Clause) → k < length clauses → c ≡ get_or clauses k c → StandInIndex clauses before k → StandsAgain clauses k →
    HasTwoLiterals c ⊎ Contains after.short k → ((i : ℕ) → Contains before.short i → Contains after.short i) → ((l : Literal) → held_at after l ≡ held_at before l) → StandInIndex clauses after (k + 1)
indexed-again clauses before after k c within read old again short kept_short same = record {
  held = λ i d l h found stands.
      let w : HasEqual clauses (held_at before l) d =
      elim (cases_eq i k) [
        | inl e ↦ old.held again.0 d l again.1 (again.2 ∙ subst (λ (x : ℕ). slice_get clauses x ≡ Some d) e found) stands
        | inr ne ↦ old.held i d l (omega arith) found stands
      ] in
      (w.0, subst (λ (x : List ℕ). Contains x w.0) (sym (same l)) w.1, w.2);
  short = λ i d h found.
      elim (cases_eq i k) [
        | inl e ↦ let is : d ≡ c = clause-same clauses i k c d e found read in rw (e, is) short
        | inr ne ↦ elim (old.short i d (omega arith) found) [ inl two ↦ inl two | inr a ↦ inr (kept_short i a) ]
      ];
}

pub again-ok : {X E : Type 0} (r : Result X E) (clauses : List Clause) (before after : Index) (k : ℕ) (c : Clause) → k < length clauses → c ≡ get_or clauses k c → StandInIndex clauses before k → StandsAgain clauses k →
    OnOk r (HasTwoLiterals c ⊎ Contains after.short k) → OnOk r ((i : ℕ) → Contains before.short i → Contains after.short i) → ((l : Literal) → held_at after l ≡ held_at before l) → OnOk r (StandInIndex clauses after (k + 1))
again-ok (Ok x) clauses before after k c within read old again short kept same = indexed-again clauses before after k c within read old again short kept same
again-ok (Err e) clauses before after k c within read old again short kept same = tt

found-before : (xs ys : List Clause) (i : ℕ) (d : Clause) → i < length xs → slice_get (xs ++ ys) i ≡ Some d → slice_get xs i ≡ Some d
found-before xs ys i d h found =
    let same : get_or xs i d ≡ d = sym (get_or_append_left xs ys d i h) ∙ get_or_from_slice_get (xs ++ ys) i d d found in
    slice_get-get_or xs i d h ∙ ap Some same

found-behind : (xs ys : List Clause) (i : ℕ) (d : Clause) → slice_get xs i ≡ Some d → slice_get (xs ++ ys) i ≡ Some d
found-behind xs ys i d found =
    let h : i < length xs = slice_get_within xs i d found in
    let same : get_or (xs ++ ys) i d ≡ d = get_or_append_left xs ys d i h ∙ get_or_from_slice_get xs i d d found in
    slice_get-get_or (xs ++ ys) i d (omega (arith, h, length-append xs ys)) ∙ ap Some same

longer : (xs ys : List Clause) (index : Index) → StandInIndex xs index (length xs) → StandInIndex (xs ++ ys) index (length xs)
longer xs ys index old = record {
  held = λ i d l h found stands. let w = old.held i d l h (found-before xs ys i d h found) stands in (w.0, w.1, found-behind xs ys w.0 d w.2);
  short = λ i d h found. old.short i d h (found-before xs ys i d h found);
}

-- and one more behind them
pub indexed-with : (clauses : List Clause) (before after : Index) (c : Clause) → StandInIndex clauses before (length clauses) → IsIndexedWith before c (length clauses) after →
    StandInIndex (clauses ++ c ∷ []) after (length (clauses ++ c ∷ []))
indexed-with clauses before after c old more =
    let all : length (clauses ++ c ∷ []) ≡ length clauses + 1 = omega (arith, length-append clauses (c ∷ [])) in
    rw all (indexed-step (clauses ++ c ∷ []) before after (length clauses) c (sym (get_or-append_seam clauses c [] c)) (longer clauses (c ∷ []) before old) more)
