-- Parts of a pattern: the pieces behind its first and before its last, and the last piece for any number.
use Rattle.std.proofs.Common.{◌≡◌, ◌≤◌, List, [], ◌∷◌, ◌++◌, length, get_or, Bool, true, false, ◌==◌, refl, sym, ap, ◌∙◌, inl, inr, arith}
use Rattle.std.proofs.lemmas.Bool.{cases_Bool, and_parts, and_from, both_ways, eqb-true}
use Rattle.std.proofs.lemmas.List.{nil_from_length}
use Rattle.std.specs.List.{list_all}
use Rattle.wildcard_lang.specs.declared.piece.Piece.{Piece}
use Rattle.wildcard_lang.specs.declared.piece.Piece.TheVariants.{One, Many}
use Rattle.wildcard_lang.specs.Matching.{is_many}
use Rattle.wildcard_lang.specs.Patterns.{is_lower, is_wide, is_not_narrow, narrow_first, IsPatternPart}
use Rattle.wildcard_lang.specs.Runs.{IsRun, last_or}
use Rattle.wildcard_lang.proofs.PatternRules.{narrow_first-none}
use Rattle.wildcard_lang.proofs.Refusing.{run-head, run-tail}

all-front : (test : Piece → Bool) (ps qs : List Piece) → list_all test (ps ++ qs) ≡ true → list_all test ps ≡ true
all-front test [] qs h = refl
all-front test (p ∷ ps) qs h =
    let both = and_parts (test p) (list_all test (ps ++ qs)) h in and_from _ _ both.0 (all-front test ps qs both.1)

pub all-behind : (test : Piece → Bool) (ps qs : List Piece) → list_all test (ps ++ qs) ≡ true → list_all test qs ≡ true
all-behind test [] qs h = h
all-behind test (p ∷ ps) qs h = all-behind test ps qs (and_parts (test p) (list_all test (ps ++ qs)) h).1

pub part-tail : (p : Piece) (ps : List Piece) → IsPatternPart (p ∷ ps) → IsPatternPart ps
part-tail p ps h = (
  (and_parts (is_lower p) (list_all is_lower ps) h.0).1,
  elim (cases_Bool (is_wide p)) [
    | inl e ↦ narrow_first-none ps (rw e at h.1)
    | inr e ↦ rw e at h.1
  ],
)

part-behind : (ps qs : List Piece) → IsPatternPart (ps ++ qs) → IsPatternPart qs
part-behind [] qs h = h
part-behind (p ∷ ps) qs h = part-behind ps qs (part-tail p (ps ++ qs) h)

narrow-front : (ps qs : List Piece) → narrow_first (ps ++ qs) ≡ true → narrow_first ps ≡ true
narrow-front [] qs h = refl
narrow-front (p ∷ ps) qs h =
    elim (cases_Bool (is_wide p)) [
      | inl e ↦ rw e (all-front is_not_narrow ps qs (rw e at h))
      | inr e ↦ rw e (narrow-front ps qs (rw e at h))
    ]

part-front : (ps qs : List Piece) → IsPatternPart (ps ++ qs) → IsPatternPart ps
part-front ps qs h = (all-front is_lower ps qs h.0, narrow-front ps qs h.1)

-- all but the last piece
pub part_front : (rest more : List Piece) (p : Piece) → rest ≡ more ++ p ∷ [] → IsPatternPart rest → IsPatternPart more
part_front rest more p parts part = part-front more (p ∷ []) (rw parts at part)

-- all but the first
pub part_left : (rest : List Piece) (p : Piece) (more : List Piece) → rest ≡ p ∷ more → IsPatternPart rest → IsPatternPart more
part_left rest p more parts part = part-tail p more (rw parts at part)

-- ---- the last piece

last-snoc : (d : Piece) (ps : List Piece) (p : Piece) → last_or d (ps ++ p ∷ []) ≡ p
last-snoc d [] p = refl
last-snoc d (q ∷ ps) p = last-snoc q ps p

pub last_found : (rest more : List Piece) (p : Piece) → rest ≡ more ++ p ∷ [] → is_many p ≡ true → is_many (last_or One rest) ≡ true
last_found rest more p parts many = rw parts (ap is_many (last-snoc One more p) ∙ many)

last-kept : (p : Piece) (ps : List Piece) → is_many p ≡ false → is_many (last_or One (p ∷ ps)) ≡ true → is_many (last_or One ps) ≡ true
last-kept p [] one h = absurd (both_ways (is_many p) one h)
last-kept p (q ∷ ps) one h = h

pub last_kept : (rest : List Piece) (p : Piece) (more : List Piece) → rest ≡ p ∷ more → is_many p ≡ false → is_many (last_or One rest) ≡ true → is_many (last_or One more) ≡ true
last_kept rest p more parts one last = last-kept p more one (rw parts at last)

last-behind : (d : Piece) (run behind : List Piece) → 1 ≤ length behind → is_many (last_or d (run ++ behind)) ≡ true → is_many (last_or One behind) ≡ true
last-behind d [] [] some h = absurd (omega arith)
last-behind d [] (q ∷ behind) some h = h
last-behind d (p ∷ run) behind some h = last-behind p run behind some h

run-last : (p : Piece) (run : List Piece) → is_many p ≡ false → IsRun run → is_many (last_or p (run ++ [])) ≡ false
run-last p [] one ones = one
run-last p (q ∷ run) one ones = run-last q run (run-head q run ones) (run-tail q run ones)

-- behind the last piece for any number there is no run
pub no_run : (first : Piece) (run : List Piece) → IsRun run → is_many (last_or first (run ++ [])) ≡ true → run ≡ []
no_run first [] ones h = refl
no_run first (p ∷ run) ones h = absurd (both_ways _ (run-last p run (run-head p run ones) (run-tail p run ones)) h)

-- ---- what is behind a run

pub none_behind : (behind : List Piece) (empty : Bool) → empty ≡ (length behind == 0) → empty ≡ true → behind ≡ []
none_behind behind empty is h = nil_from_length behind (eqb-true (length behind) 0 (sym is ∙ h))

pub some_behind : (behind : List Piece) (empty : Bool) → empty ≡ (length behind == 0) → empty ≡ false → 1 ≤ length behind
some_behind [] empty is h = absurd (both_ways empty h is)
some_behind (p ∷ behind) empty is h = omega arith

pub first_behind : (behind : List Piece) → 1 ≤ length behind → is_many (get_or behind 0 Many) ≡ true → is_many (get_or behind 0 One) ≡ true
first_behind [] some h = absurd (omega arith)
first_behind (p ∷ behind) some h = h

pub last_of_behind : (rest : List Piece) (first : Piece) (run behind : List Piece) → rest ≡ first ∷ (run ++ behind) → 1 ≤ length behind → is_many (last_or One rest) ≡ true → is_many (last_or One behind) ≡ true
last_of_behind rest first run behind parts some last = last-behind first run behind some (rw parts at last)

pub part_of_behind : (rest : List Piece) (first : Piece) (run behind : List Piece) → rest ≡ first ∷ (run ++ behind) → IsPatternPart rest → IsPatternPart behind
part_of_behind rest first run behind parts part = part-behind run behind (part-tail first (run ++ behind) (rw parts at part))
