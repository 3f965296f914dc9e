-- What a pattern matches that another covers, or that clashes with another.
use Rattle.std.proofs.Common.{◌≡◌, ℕ, Bool, true, false, not, ◌||◌, List, [], ◌∷◌, ◌++◌, map, Any, refl, inl, inr}
use Rattle.std.proofs.lemmas.Bool.{cases_Bool, both_ways, and_parts, or_cases, or_right, eqb-true}
use Rattle.std.proofs.lemmas.List.Folds.{Any-from_list_any, list_any-from_Any}
use Rattle.std.specs.Bool.{Decides}
use Rattle.std.specs.List.{list_all}
use Rattle.wildcard_lang.specs.declared.piece.Piece.{Piece}
use Rattle.wildcard_lang.specs.declared.piece.Piece.TheVariants.{Lit, Many}
use Rattle.wildcard_lang.specs.Matching.{takes, is_many, Matches, no_pieces as none_match, takes_one as one_takes, is_done as many_done, takes_more as many_takes}
use Rattle.wildcard_lang.specs.Covering.{TakesPiece, CoversPattern, no_pieces, takes_one, is_done, takes_more, LiteralsAreCovered}
use Rattle.wildcard_lang.specs.Covering.{Clash, differs, goes_on, first_ends, second_ends, has_one, clashes, shares}
use Rattle.wildcard_lang.proofs.Literals.{exact-matches}
use Rattle.wildcard_lang.proofs.Sharing.{shares-nothing, nothing-shares}
use Rattle.wildcard_lang.proofs.Inversions.{OneTaken, one_left, RunTaken, many_left}

-- a pattern that takes each character of a run, and matches what is behind it
run_matches : (a : Piece) (q : List Piece) (run rest : List ℕ) → is_many a ≡ true → list_all (takes a) run ≡ true → Matches (a ∷ q) rest →
    Matches (a ∷ q) (run ++ rest)
run_matches a q [] rest many taken m = m
run_matches a q (c ∷ run) rest many taken m =
    let both = and_parts (takes a c) (list_all (takes a) run) taken in many_takes many both.0 (run_matches a q run rest many both.1 m)

run_taken : (a x : Piece) (run : List ℕ) → TakesPiece a x → list_all (takes x) run ≡ true → list_all (takes a) run ≡ true
run_taken a x [] k h = refl
run_taken a x (c ∷ run) k h =
    let both = and_parts (takes x c) (list_all (takes x) run) h in rw (k c both.0, run_taken a x run k both.1) refl

one_behind : (a x : Piece) (q p : List Piece) (t : List ℕ) → is_many a ≡ true → TakesPiece a x → OneTaken x p t →
    ((u : List ℕ) → Matches p u → Matches (a ∷ q) u) → Matches (a ∷ q) t
one_behind a x q p t many k o rest = rw o.is (many_takes many (k o.first o.taken) (rest o.rest o.matches))

run_behind : (a x : Piece) (q p : List Piece) (t : List ℕ) → is_many a ≡ true → TakesPiece a x → RunTaken x p t →
    ((u : List ℕ) → Matches p u → Matches (a ∷ q) u) → Matches (a ∷ q) t
run_behind a x q p t many k r rest = rw r.is (run_matches a q r.run r.rest many (run_taken a x r.run k r.taken) (rest r.rest r.matches))

pub covering-includes : (q p : List Piece) (t : List ℕ) → CoversPattern q p → Matches p t → Matches q t
covering-includes [] [] t no_pieces m = m
covering-includes [] (x ∷ p) t r m = elim r [ ]
covering-includes (a ∷ q) (x ∷ p) t (takes_one one single k r) m =
    let o : OneTaken x p t = one_left x p t single m in rw o.is (one_takes one (k o.first o.taken) (covering-includes q p o.rest r o.matches))
covering-includes (a ∷ q) p t (is_done many r) m = many_done many (covering-includes q p t r m)
covering-includes (a ∷ q) (x ∷ p) t (takes_more many k r) m =
    elim (cases_Bool (is_many x)) [
      | inl e ↦ run_behind a x q p t many k (many_left x p t e m) (λ u. covering-includes (a ∷ q) p u r)
      | inr e ↦ one_behind a x q p t many k (one_left x p t e m) (λ u. covering-includes (a ∷ q) p u r)
    ]

pub covers-itself : (p : List Piece) → CoversPattern p p
covers-itself [] = no_pieces
covers-itself (x ∷ p) =
    elim (cases_Bool (is_many x)) [
      | inl e ↦ takes_more e (λ c h. h) (is_done e (covers-itself p))
      | inr e ↦ takes_one e e (λ c h. h) (covers-itself p)
    ]

pub star-covers : (p : List Piece) → CoversPattern (Many ∷ []) p
star-covers [] = is_done refl no_pieces
star-covers (x ∷ p) = takes_more refl (λ c h. refl) (star-covers p)

literal_taken : (a : Piece) (c : ℕ) → takes a c ≡ true → TakesPiece a (Lit c)
literal_taken a c h d k = let e : d ≡ c = eqb-true d c k in rw e h

matched-literals : (q : List Piece) (t : List ℕ) → Matches q t → CoversPattern q (map Lit t)
matched-literals [] [] none_match = no_pieces
matched-literals [] (c ∷ t) m = elim m [ ]
matched-literals (a ∷ q) (c ∷ t) (one_takes one k m) = takes_one one refl (literal_taken a c k) (matched-literals q t m)
matched-literals (a ∷ q) t (many_done many m) = is_done many (matched-literals q t m)
matched-literals (a ∷ q) (c ∷ t) (many_takes many k m) = takes_more many (literal_taken a c k) (matched-literals (a ∷ q) t m)

pub literals-covered : LiteralsAreCovered
literals-covered q t = (λ r. covering-includes q (map Lit t) t r (exact-matches t), matched-literals q t)

-- ---- patterns that clash

pub not_true : (b : Bool) → not b ≡ true → b ≡ false
not_true true h = absurd (cc)
not_true false h = refl

not_false : (b : Bool) → b ≡ false → not b ≡ true
not_false true h = absurd (cc)
not_false false h = refl

Decides-has_one : (ps : List Piece) → Decides (has_one ps) (Any (λ x. is_many x ≡ false) ps)
Decides-has_one ps = (
  λ h. let w = Any-from_list_any (λ x. not (is_many x)) ps h in (w.0, w.1, w.2, w.3, not_true (is_many w.1) w.4),
  λ w. list_any-from_Any (λ x. not (is_many x)) ps (w.0, w.1, w.2, w.3, not_false (is_many w.1) w.4),
)

-- a pattern with a piece for one character doesn't match the empty text
one_needs : (ps : List Piece) → has_one ps ≡ true → Matches ps [] → ⊥
one_needs [] h m = absurd (cc)
one_needs (p ∷ ps) h (many_done many m) = one_needs ps (rw many at h) m

one_front : (p : Piece) (ps : List Piece) (c : ℕ) (t : List ℕ) → is_many p ≡ false → Matches (p ∷ ps) (c ∷ t) → (takes p c ≡ true) × Matches ps t
one_front p ps c t e (one_takes one k m) = (k, m)
one_front p ps c t e (many_done many m) = absurd (both_ways (is_many p) e many)
one_front p ps c t e (many_takes many k m) = absurd (both_ways (is_many p) e many)

no_front : (p : Piece) (ps : List Piece) → is_many p ≡ false → Matches (p ∷ ps) [] → ⊥
no_front p ps e (many_done many m) = both_ways (is_many p) e many

pub clashing-apart : (q p : List Piece) (t : List ℕ) → Clash q p → Matches q t → Matches p t → ⊥
clashing-apart [] p [] (first_ends some) m n = one_needs p ((Decides-has_one p).1 some) n
clashing-apart [] p (c ∷ t) (first_ends some) m n = elim m [ ]
clashing-apart q [] [] (second_ends some) m n = one_needs q ((Decides-has_one q).1 some) m
clashing-apart q [] (c ∷ t) (second_ends some) m n = elim n [ ]
clashing-apart (a ∷ q) (x ∷ p) [] (differs one single apart) m n = no_front a q one m
clashing-apart (a ∷ q) (x ∷ p) (c ∷ t) (differs one single apart) m n =
    both_ways (takes x c) (apart c (one_front a q c t one m).0) (one_front x p c t single n).0
clashing-apart (a ∷ q) (x ∷ p) [] (goes_on one single r) m n = no_front a q one m
clashing-apart (a ∷ q) (x ∷ p) (c ∷ t) (goes_on one single r) m n =
    clashing-apart q p t r (one_front a q c t one m).1 (one_front x p c t single n).1

clashes-to : (q p : List Piece) → clashes q p ≡ true → Clash q p
clashes-to [] p h = first_ends ((Decides-has_one p).0 h)
clashes-to (a ∷ q) [] h = second_ends ((Decides-has_one (a ∷ q)).0 h)
clashes-to (a ∷ q) (x ∷ p) h =
    let fronts = and_parts (not (is_many a)) _ h in
    let behind = and_parts (not (is_many x)) (not (shares a x) || clashes q p) fronts.1 in
    let one : is_many a ≡ false = not_true (is_many a) fronts.0 in
    let single : is_many x ≡ false = not_true (is_many x) behind.0 in
    elim (or_cases (not (shares a x)) (clashes q p) behind.1) [
      | inl e ↦ differs one single (shares-nothing a x (not_true (shares a x) e))
      | inr e ↦ goes_on one single (clashes-to q p e)
    ]

clashes-from : (q p : List Piece) → Clash q p → clashes q p ≡ true
clashes-from [] p (first_ends some) = (Decides-has_one p).1 some
clashes-from [] [] (second_ends some) = (Decides-has_one []).1 some
clashes-from (a ∷ q) [] (second_ends some) = (Decides-has_one (a ∷ q)).1 some
clashes-from (a ∷ q) (x ∷ p) (differs one single apart) = rw (one, single, nothing-shares a x apart) refl
clashes-from (a ∷ q) (x ∷ p) (goes_on one single r) = rw (one, single) (or_right (not (shares a x)) (clashes q p) (clashes-from q p r))

pub Decides-clashes : (q p : List Piece) → Decides (clashes q p) (Clash q p)
Decides-clashes q p = (clashes-to q p, clashes-from q p)
