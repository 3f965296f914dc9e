-- What a list of findings in order has where one was put in.
use Rattle.std.proofs.Common.{◌≡◌, ◌⊎◌, ℕ, List, [], ◌∷◌, map, Ordering, Less, Equal, Greater, refl, ap, sym, subst, ◌∙◌, inl, inr, arith}
use Rattle.std.specs.Prelude.{All, Contains}
use Rattle.std.specs.BTreeMap.{insert_entry}
use Rattle.std.specs.List.{AllByRecursion}
use Rattle.std.specs.List.Sorted.{IsStrictlySortedBy}
use Rattle.std.specs.Map.{keys_of}
use Rattle.std.specs.Cmp.Lexicographic.{slice_cmp}
use Rattle.std.specs.Ordering.{is_eq, match_ordering, nat_cmp}
use Rattle.std.proofs.lemmas.List.Elements.{All-cons, All-head, All-nil, All-tail, Contains-append_cases, Contains-append_right, Contains-push_cases}
use Rattle.std.proofs.lemmas.Map.Text.{is_eq-slice_cmp}
use Rattle.std.proofs.lemmas.Slice.Eq.{bytes_eq-Decides}
use Rattle.policy_model.specs.declared.request.Request.{Request}
use Rattle.findings.specs.Summaries.{findings_of}
use Rattle.findings.specs.Walked.{with_found}

abbrev Found : Type 0
Found = List ℕ × Request

equal-lists : (a b : List ℕ) → slice_cmp nat_cmp a b ≡ Equal → a ≡ b
equal-lists a b e = (bytes_eq-Decides a b).0 (sym (is_eq-slice_cmp a b) ∙ ap is_eq e)

among-first : (x y : List ℕ) (xs : List (List ℕ)) → x ≡ y → Contains (x ∷ xs) y
among-first x y xs same = (0, omega arith, same)

among-later : (x y : List ℕ) (xs : List (List ℕ)) → Contains xs y → Contains (x ∷ xs) y
among-later x y xs h = Contains-append_right (x ∷ []) xs y h

among-cases : (x y : List ℕ) (xs : List (List ℕ)) → Contains (x ∷ xs) y → (x ≡ y) ⊎ Contains xs y
among-cases x y xs h = elim (Contains-append_cases (x ∷ []) xs y h) [
  | inl first ↦ elim (Contains-push_cases [] x y first) [ inl none ↦ absurd (omega (arith, none.1)) | inr same ↦ inl same ]
  | inr later ↦ inr later
]

-- ---- what holds of all

all-at : (P : Found → Type 0) (e : Found) (es later : List Found) (f : List ℕ) (r : Request) (o : Ordering) → slice_cmp nat_cmp f e.0 ≡ o → All P (e ∷ es) → P (f, r) → All P later →
    All P (match_ordering o ((f, r) ∷ e ∷ es) ((e.0, r) ∷ es) (e ∷ later))
all-at P e es later f r Less is all here rest = All-cons P (f, r) (e ∷ es) here all
all-at P e es later f r Equal is all here rest = All-cons P (e.0, r) es (subst (λ (own : List ℕ). P (own, r)) (equal-lists f e.0 is) here) (All-tail P e es all)
all-at P e es later f r Greater is all here rest = All-cons P e later (All-head P e es all) rest

pub all-entered : (P : Found → Type 0) (es : List Found) (f : List ℕ) (r : Request) → All P es → P (f, r) → All P (with_found es f r)
all-entered P [] f r all here = All-cons P (f, r) [] here (All-nil P)
all-entered P (e ∷ es) f r all here = all-at P e es (with_found es f r) f r (slice_cmp nat_cmp f e.0) refl all here (all-entered P es f r (All-tail P e es all) here)

-- ---- which findings are there

there-at : (e : Found) (es later : List Found) (f : List ℕ) (r : Request) (o : Ordering) → slice_cmp nat_cmp f e.0 ≡ o → Contains (findings_of later) f →
    Contains (findings_of (match_ordering o ((f, r) ∷ e ∷ es) ((e.0, r) ∷ es) (e ∷ later))) f
there-at e es later f r Less is rest = among-first f f (e.0 ∷ findings_of es) refl
there-at e es later f r Equal is rest = among-first e.0 f (findings_of es) (sym (equal-lists f e.0 is))
there-at e es later f r Greater is rest = among-later e.0 f (findings_of later) rest

pub entered-there : (es : List Found) (f : List ℕ) (r : Request) → Contains (findings_of (with_found es f r)) f
entered-there [] f r = among-first f f [] refl
entered-there (e ∷ es) f r = there-at e es (with_found es f r) f r (slice_cmp nat_cmp f e.0) refl (entered-there es f r)

kept-at : (e : Found) (es later : List Found) (f : List ℕ) (r : Request) (o : Ordering) (g : List ℕ) → Contains (findings_of (e ∷ es)) g → (Contains (findings_of es) g → Contains (findings_of later) g) →
    Contains (findings_of (match_ordering o ((f, r) ∷ e ∷ es) ((e.0, r) ∷ es) (e ∷ later))) g
kept-at e es later f r Less g h rest = among-later f g (e.0 ∷ findings_of es) h
kept-at e es later f r Equal g h rest = h
kept-at e es later f r Greater g h rest = elim (among-cases e.0 g (findings_of es) h) [
  | inl same ↦ among-first e.0 g (findings_of later) same
  | inr before ↦ among-later e.0 g (findings_of later) (rest before)
]

pub entered-kept : (es : List Found) (f : List ℕ) (r : Request) (g : List ℕ) → Contains (findings_of es) g → Contains (findings_of (with_found es f r)) g
entered-kept [] f r g h = absurd (omega (arith, h.1))
entered-kept (e ∷ es) f r g h = kept-at e es (with_found es f r) f r (slice_cmp nat_cmp f e.0) g h (entered-kept es f r g)

-- ---- keys that are seen as findings

module _ {K X : Type 0} (seen : K → List ℕ) (cmp : K → K → Ordering) (same : (x y : K) → cmp x y ≡ slice_cmp nat_cmp (seen x) (seen y)) where
  abbrev pub pair_seen : K × X → List ℕ × X
  pair_seen e = (seen e.0, e.1)

  seen-at : (e : K × X) (es later : List (K × X)) (k : K) (v : X) (there : List (List ℕ × X)) (o : Ordering) → map pair_seen later ≡ there →
      map pair_seen (match_ordering o ((k, v) ∷ e ∷ es) ((e.0, v) ∷ es) (e ∷ later)) ≡ match_ordering o ((seen k, v) ∷ pair_seen e ∷ map pair_seen es) ((seen e.0, v) ∷ map pair_seen es) (pair_seen e ∷ there)
  seen-at e es later k v there Less is = refl
  seen-at e es later k v there Equal is = refl
  seen-at e es later k v there Greater is = ap (λ (x : List (List ℕ × X)). pair_seen e ∷ x) is

  -- what was put in by its key was put in as a finding
  pub seen-entered : (es : List (K × X)) (k : K) (v : X) → map pair_seen (insert_entry cmp es k v) ≡ insert_entry (slice_cmp nat_cmp) (map pair_seen es) (seen k) v
  seen-entered [] k v = refl
  seen-entered (e ∷ es) k v =
      seen-at e es (insert_entry cmp es k v) k v (insert_entry (slice_cmp nat_cmp) (map pair_seen es) (seen k) v) (cmp k e.0) (seen-entered es k v) ∙
      ap (λ (o : Ordering). match_ordering o ((seen k, v) ∷ pair_seen e ∷ map pair_seen es) ((seen e.0, v) ∷ map pair_seen es) (pair_seen e ∷ insert_entry (slice_cmp nat_cmp) (map pair_seen es) (seen k) v)) (same k e.0)

  first-seen : (k : K) (es : List (K × X)) → AllByRecursion (λ x. cmp k x ≡ Less) (keys_of es) → AllByRecursion (λ f. slice_cmp nat_cmp (seen k) f ≡ Less) (map (λ p. p.0) (map pair_seen es))
  first-seen k [] all = tt
  first-seen k (e ∷ es) all = (sym (same k e.0) ∙ all.0, first-seen k es all.1)

  -- and in order
  pub seen-sorted : (es : List (K × X)) → IsStrictlySortedBy cmp (keys_of es) → IsStrictlySortedBy (slice_cmp nat_cmp) (map (λ p. p.0) (map pair_seen es))
  unfolding IsStrictlySortedBy
  seen-sorted [] sorted = tt
  seen-sorted (e ∷ es) sorted = (first-seen e.0 es sorted.0, seen-sorted es sorted.1)
