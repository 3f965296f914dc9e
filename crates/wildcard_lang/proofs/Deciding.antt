-- The first place of each run of a pattern decides. A star behind the run takes whatever is left more there. Between stars that take no
-- colon, the one behind the run takes what the first would, or a colon in the run stands at one place of the text alone.
use Rattle.std.proofs.Common.{◌≡◌, ℕ, zero, suc, ◌<◌, ◌≤◌, List, [], ◌∷◌, ◌++◌, length, drop, take, get_or, All, Bool, true, false, not, ◌||◌, ◌==◌, ◌⊎◌, refl, sym, ap, subst, ◌∙◌, inl, inr, arith}
use Rattle.std.specs.Prelude.{⊤}
use Rattle.std.proofs.lemmas.List.Elements.{All-head, All-tail, All-nil, All-cons}
use Rattle.std.proofs.lemmas.Bool.Decides.{nat_tests}
use Rattle.std.proofs.lemmas.Bool.{cases_Bool, or_cases, or_right, and_parts, and_from, both_ways, not-true, not-false, eqb-true}
use Rattle.std.specs.Char.{to_ascii_uppercase, is_ascii_lowercase}
use Rattle.std.specs.List.{list_all}
use Rattle.wildcard_lang.specs.declared.piece.Piece.{Piece}
use Rattle.wildcard_lang.specs.declared.piece.Piece.TheVariants.{Lit, LitFold, One, Many, OneNoColon, ManyNoColon}
use Rattle.wildcard_lang.specs.declared.runs.Found.{Found}
use Rattle.wildcard_lang.specs.Matching.{is_many, takes}
use Rattle.wildcard_lang.specs.Patterns.{IsPatternPart, is_lower, is_wide, is_not_narrow}
use Rattle.wildcard_lang.specs.Covering.{takes_next, takes_piece}
use Rattle.wildcard_lang.specs.Accepts.{accepts_by, accepts_many}
use Rattle.wildcard_lang.specs.Runs.{IsRun, IsLeft, IsFirst, IsNarrowing, is_narrow, last_or}
use Rattle.wildcard_lang.proofs.Fronts.{star_alone}
use Rattle.wildcard_lang.proofs.PatternParts.{all-behind, part-tail, no_run}
use Rattle.wildcard_lang.proofs.Refusing.{run-head, run-tail, one-refused, drop-nil, run_taken, first_ends, decided_by}

-- the run decides: once it takes the items, what stands behind it matches what it leaves, or nothing matches
abbrev IsDecisive : {X : Type 0} → (Piece → X → Bool) → Piece → List Piece → List Piece → Type 0
IsDecisive {X} taken first run behind = (t u : List X) → IsLeft taken run t u → accepts_by taken (first ∷ (run ++ behind)) t ≡ accepts_by taken behind u

-- the first items, k of them, are taken by the narrow star
abbrev Passed : {X : Type 0} → (Piece → X → Bool) → ℕ → List X → Type 0
Passed taken zero t = ⊤
Passed taken (suc k) [] = ⊤
Passed taken (suc k) (x ∷ t) = (taken ManyNoColon x ≡ true) × Passed taken k t

passed-less : {X : Type 0} (taken : Piece → X → Bool) (k : ℕ) (t : List X) → Passed taken (suc k) t → Passed taken k t
passed-less taken zero t p = tt
passed-less taken (suc k) [] p = tt
passed-less taken (suc k) (x ∷ t) p = (p.0, passed-less taken k t p.1)

passed-more : {X : Type 0} (taken : Piece → X → Bool) (k : ℕ) (x : X) (t : List X) → taken ManyNoColon x ≡ true → Passed taken k t → Passed taken k (x ∷ t)
passed-more taken zero x t n p = tt
passed-more taken (suc k) x t n p = (n, passed-less taken k t p)

-- where the run is taken, its first pieces that take no colon pass
run-passed : {X : Type 0} (taken : Piece → X → Bool) → IsNarrowing taken → (k : ℕ) (run qs : List Piece) (t : List X) → IsRun run → All (λ p. is_narrow p ≡ true) (take k run) → k ≤ length run →
    accepts_by taken (run ++ qs) t ≡ true → Passed taken k t
run-passed taken law zero run qs t ones narrow within h = tt
run-passed taken law (suc k) [] qs t ones narrow within h = absurd (omega arith)
run-passed taken law (suc k) (p ∷ run) qs [] ones narrow within h = tt
run-passed taken law (suc k) (p ∷ run) qs (x ∷ t) ones narrow within h =
    let one : is_many p ≡ false = run-head p run ones in
    let both = and_parts (taken p x) (accepts_by taken (run ++ qs) t) (rw one at h) in (
      law.0 p x (All-head (λ q. is_narrow q ≡ true) p (take k run) narrow) both.0,
      run-passed taken law k run qs t (run-tail p run ones) (All-tail (λ q. is_narrow q ≡ true) p (take k run) narrow) (omega arith) both.1,
    )

-- and so they do where it is taken behind what the first star takes
later-passed : {X : Type 0} (taken : Piece → X → Bool) → IsNarrowing taken → (first : Piece) → is_narrow first ≡ true → (k : ℕ) (run qs : List Piece) (t : List X) → IsRun run →
    All (λ p. is_narrow p ≡ true) (take k run) → k ≤ length run → accepts_many (accepts_by taken (run ++ qs)) (taken first) t ≡ true → Passed taken k t
later-passed taken law first none k run qs [] ones narrow within h = run-passed taken law k run qs [] ones narrow within h
later-passed taken law first none k run qs (x ∷ t) ones narrow within h =
    elim (or_cases (accepts_by taken (run ++ qs) (x ∷ t)) _ h) [
      | inl e ↦ run-passed taken law k run qs (x ∷ t) ones narrow within e
      | inr e ↦
          let both = and_parts (taken first x) (accepts_many (accepts_by taken (run ++ qs)) (taken first) t) e in
          passed-more taken k x t (law.0 first x none both.0) (later-passed taken law first none k run qs t ones narrow within both.1)
    ]

-- ---- a star behind a run

star_decides : {X : Type 0} (taken : Piece → X → Bool) → ((x : X) → taken Many x ≡ true) → (first : Piece) (run behind ps : List Piece) → is_many first ≡ true → IsRun run → behind ≡ Many ∷ ps →
    IsDecisive taken first run behind
star_decides taken star first run behind ps many ones begins t u is =
    subst (λ qs. accepts_by taken (first ∷ (run ++ qs)) t ≡ accepts_by taken qs u) (sym begins) (first_ends taken star first run t u many ones is ps)

-- ---- a narrow star behind a run that takes no colon

star-back : {X : Type 0} (taken : Piece → X → Bool) (ps : List Piece) (n : ℕ) (x : X) (t : List X) → taken ManyNoColon x ≡ true → Passed taken n t →
    accepts_by taken (ManyNoColon ∷ ps) (drop n t) ≡ true → accepts_by taken (ManyNoColon ∷ ps) (drop n (x ∷ t)) ≡ true
star-back taken ps zero x t is p h = rw (is, h) (or_right (accepts_by taken ps (x ∷ t)) true refl)
star-back taken ps (suc n) x [] is p h = subst (λ u. accepts_by taken (ManyNoColon ∷ ps) u ≡ true) (sym (drop-nil n)) h
star-back taken ps (suc n) x (y ∷ t) is p h = star-back taken ps n y t p.0 p.1 h

narrow-later : {X : Type 0} (taken : Piece → X → Bool) → IsNarrowing taken → (first : Piece) → is_narrow first ≡ true → (run ps : List Piece) (t : List X) → IsRun run →
    All (λ p. is_narrow p ≡ true) (take (length run) run) → accepts_many (accepts_by taken (run ++ ManyNoColon ∷ ps)) (taken first) t ≡ true →
    accepts_by taken (ManyNoColon ∷ ps) (drop (length run) t) ≡ true
narrow-later taken law first none run ps [] ones narrow h = run_taken taken run (ManyNoColon ∷ ps) [] ones h
narrow-later taken law first none run ps (x ∷ t) ones narrow h =
    elim (or_cases (accepts_by taken (run ++ ManyNoColon ∷ ps) (x ∷ t)) _ h) [
      | inl e ↦ run_taken taken run (ManyNoColon ∷ ps) (x ∷ t) ones e
      | inr e ↦
          let both = and_parts (taken first x) (accepts_many (accepts_by taken (run ++ ManyNoColon ∷ ps)) (taken first) t) e in
          star-back taken ps (length run) x t (law.0 first x none both.0)
          (later-passed taken law first none (length run) run (ManyNoColon ∷ ps) t ones narrow (omega arith) both.1)
          (narrow-later taken law first none run ps t ones narrow both.1)
    ]

narrow_decides : {X : Type 0} (taken : Piece → X → Bool) → IsNarrowing taken → (first : Piece) (run behind ps : List Piece) (k : ℕ) → is_many first ≡ true → is_narrow first ≡ true → IsRun run →
    All (λ p. is_narrow p ≡ true) (take k run) → k ≡ length run → behind ≡ ManyNoColon ∷ ps → IsDecisive taken first run behind
narrow_decides taken law first run behind ps k many none ones narrow whole star t u is =
    let all : All (λ p. is_narrow p ≡ true) (take (length run) run) = subst (λ n. All (λ p. is_narrow p ≡ true) (take n run)) whole narrow in
    subst (λ qs. accepts_by taken (first ∷ (run ++ qs)) t ≡ accepts_by taken qs u) (sym star)
    (decided_by taken first run (ManyNoColon ∷ ps) t u many is (narrow-later taken law first none run ps t ones all))

-- ---- a colon in the run

colon-stands : {X : Type 0} (taken : Piece → X → Bool) → IsNarrowing taken → (k : ℕ) (d : Piece) (run qs : List Piece) (t : List X) → IsRun run → k < length run → get_or run k d ≡ Lit 58 →
    accepts_by taken (run ++ qs) t ≡ true → Passed taken (suc k) t → ⊥
colon-stands taken law k d [] qs t ones within is h p = absurd (omega arith)
colon-stands taken law k d (q ∷ run) qs [] ones within is h p = both_ways _ (one-refused taken q (run ++ qs) [] (run-head q run ones) refl) h
colon-stands taken law zero d (q ∷ run) qs (x ∷ t) ones within is h p =
    let one : is_many q ≡ false = run-head q run ones in
    let both = and_parts (taken q x) (accepts_by taken (run ++ qs) t) (rw one at h) in
    both_ways (taken ManyNoColon x) (law.1 x (subst (λ r. taken r x ≡ true) is both.0)) p.0
colon-stands taken law (suc k) d (q ∷ run) qs (x ∷ t) ones within is h p =
    let one : is_many q ≡ false = run-head q run ones in
    let both = and_parts (taken q x) (accepts_by taken (run ++ qs) t) (rw one at h) in
    colon-stands taken law k d run qs t (run-tail q run ones) (omega arith) is both.1 p.1

colon-later : {X : Type 0} (taken : Piece → X → Bool) → IsNarrowing taken → (first : Piece) → is_narrow first ≡ true → (k : ℕ) (d : Piece) (run qs : List Piece) (t : List X) → IsRun run →
    All (λ p. is_narrow p ≡ true) (take k run) → k < length run → get_or run k d ≡ Lit 58 → accepts_by taken (run ++ Many ∷ []) t ≡ true →
    accepts_many (accepts_by taken (run ++ qs)) (taken first) t ≡ true → accepts_by taken qs (drop (length run) t) ≡ true
colon-later taken law first none k d run qs [] ones narrow within is here h = run_taken taken run qs [] ones h
colon-later taken law first none k d run qs (x ∷ t) ones narrow within is here h =
    elim (or_cases (accepts_by taken (run ++ qs) (x ∷ t)) _ h) [
      | inl e ↦ run_taken taken run qs (x ∷ t) ones e
      | inr e ↦
          let both = and_parts (taken first x) (accepts_many (accepts_by taken (run ++ qs)) (taken first) t) e in
          let p : Passed taken (suc k) (x ∷ t) =
          (law.0 first x none both.0, later-passed taken law first none k run qs t ones narrow (omega arith) both.1) in
          absurd (colon-stands taken law k d run (Many ∷ []) (x ∷ t) ones within is here p)
    ]

colon_decides : {X : Type 0} (taken : Piece → X → Bool) → IsNarrowing taken → ((x : X) → taken Many x ≡ true) → (first : Piece) (run behind : List Piece) (k : ℕ) (d : Piece) → is_many first ≡ true →
    is_narrow first ≡ true → IsRun run → All (λ p. is_narrow p ≡ true) (take k run) → k < length run → get_or run k d ≡ Lit 58 → IsDecisive taken first run behind
colon_decides taken law star first run behind k d many none ones narrow within is t u left =
    decided_by taken first run behind t u many left
    (colon-later taken law first none k d run behind t ones narrow within is (left.1 (Many ∷ []) ∙ star_alone taken star u))

-- ---- a part of a pattern

lower-narrow : (c : ℕ) → is_ascii_lowercase c ≡ true → is_narrow (LitFold c) ≡ true
lower-narrow c h = grind (arith, nat_tests)

-- how many of the first pieces of the run take no colon; the next, where there is one, is a plain colon
pub record IsNarrowPart (run : List Piece) (k : ℕ) : Type 0 where
  pub most : k ≤ length run
  pub narrow : All (λ p. is_narrow p ≡ true) (take k run)
  pub next : (k ≡ length run) ⊎ ((k < length run) × (get_or run k One ≡ Lit 58))

more-narrow : (p : Piece) (run : List Piece) (k : ℕ) → is_narrow p ≡ true → IsNarrowPart run k → IsNarrowPart (p ∷ run) (suc k)
more-narrow p run k n is = let most : k ≤ length run = is.most in record {
  most = omega arith;
  narrow = All-cons (λ q. is_narrow q ≡ true) p (take k run) n is.narrow;
  next = elim is.next [
    | inl e ↦ inl (ap suc e)
    | inr w ↦ let within : k < length run = w.0 in inr (omega arith, w.1)
  ];
}

wide-colon : (p : Piece) (run ps : List Piece) → IsRun (p ∷ run) → IsPatternPart ((p ∷ run) ++ ManyNoColon ∷ ps) → is_narrow p ≡ false → p ≡ Lit 58
wide-colon (Lit c) run ps ones part w = ap Lit (sym (eqb-true 58 c (not-false (58 == c) w)))
wide-colon (LitFold c) run ps ones part w =
    absurd (both_ways _ w (lower-narrow c (and_parts (is_ascii_lowercase c) (list_all is_lower (run ++ ManyNoColon ∷ ps)) part.0).0))
wide-colon One run ps ones part w = absurd (both_ways false refl (all-behind is_not_narrow run (ManyNoColon ∷ ps) part.1))
wide-colon Many run ps ones part w = absurd (both_ways true (run-head Many run ones) refl)
wide-colon OneNoColon run ps ones part w = absurd (cc)
wide-colon ManyNoColon run ps ones part w = absurd (cc)

-- so it is of a run in front of a narrow star
narrow-part : (run ps : List Piece) → IsRun run → IsPatternPart (run ++ ManyNoColon ∷ ps) → (k : ℕ) × IsNarrowPart run k
narrow-part [] ps ones part = (0, record { most = omega arith; narrow = All-nil (λ q. is_narrow q ≡ true); next = inl refl })
narrow-part (p ∷ run) ps ones part =
    let rest = narrow-part run ps (run-tail p run ones) (part-tail p (run ++ ManyNoColon ∷ ps) part) in
    elim (cases_Bool (is_narrow p)) [
      | inl n ↦ (suc rest.0, more-narrow p run rest.0 n rest.1)
      | inr w ↦ (
        0,
        record {
          most = omega arith;
          narrow = All-nil (λ q. is_narrow q ≡ true);
          next = inr (omega arith, wide-colon p run ps ones part w);
        },
      )
    ]

narrow_run_decides : {X : Type 0} (taken : Piece → X → Bool) → IsNarrowing taken → ((x : X) → taken Many x ≡ true) → (run ps : List Piece) (k : ℕ) → IsRun run →
    IsNarrowPart run k → IsDecisive taken ManyNoColon run (ManyNoColon ∷ ps)
narrow_run_decides taken law star run ps k ones is =
    elim is.next [
      | inl whole ↦ narrow_decides taken law ManyNoColon run (ManyNoColon ∷ ps) ps k refl refl ones is.narrow whole refl
      | inr w ↦ colon_decides taken law star ManyNoColon run (ManyNoColon ∷ ps) k One refl refl ones is.narrow w.0 w.1
    ]

-- the first place of each run of a pattern decides
pub run_decides : {X : Type 0} (taken : Piece → X → Bool) → IsNarrowing taken → ((x : X) → taken Many x ≡ true) → (first : Piece) (run behind : List Piece) → is_many first ≡ true → IsRun run →
    IsPatternPart (first ∷ (run ++ behind)) → 1 ≤ length behind → is_many (get_or behind 0 Many) ≡ true → IsDecisive taken first run behind
run_decides taken law star first run [] many ones part some next = absurd (omega arith)
run_decides taken law star first run (Many ∷ ps) many ones part some next = star_decides taken star first run (Many ∷ ps) ps many ones refl
run_decides taken law star Many run (ManyNoColon ∷ ps) many ones part some next = absurd (both_ways false refl (all-behind is_not_narrow run (ManyNoColon ∷ ps) part.1))
run_decides taken law star ManyNoColon run (ManyNoColon ∷ ps) many ones part some next =
    let w = narrow-part run ps ones (part-tail ManyNoColon (run ++ ManyNoColon ∷ ps) part) in
    narrow_run_decides taken law star run ps w.0 ones w.1
run_decides taken law star (Lit c) run (ManyNoColon ∷ ps) many ones part some next = absurd (cc)
run_decides taken law star (LitFold c) run (ManyNoColon ∷ ps) many ones part some next = absurd (cc)
run_decides taken law star One run (ManyNoColon ∷ ps) many ones part some next = absurd (cc)
run_decides taken law star OneNoColon run (ManyNoColon ∷ ps) many ones part some next = absurd (cc)
run_decides taken law star first run (Lit c ∷ ps) many ones part some next = absurd (cc)
run_decides taken law star first run (LitFold c ∷ ps) many ones part some next = absurd (cc)
run_decides taken law star first run (One ∷ ps) many ones part some next = absurd (cc)
run_decides taken law star first run (OneNoColon ∷ ps) many ones part some next = absurd (cc)

-- what stands behind a run goes on where the run first takes the items
pub run_goes_on : {S X : Type 0} (taken : Piece → X → Bool) → IsNarrowing taken → ((x : X) → taken Many x ≡ true) → (left : S → List X) (rest : List Piece) (first : Piece) (run behind : List Piece) (t : List X) (found : Found S) (answer : Bool) →
    rest ≡ first ∷ (run ++ behind) → is_many (get_or rest 0 One) ≡ true → IsRun run → IsPatternPart rest → 1 ≤ length behind → is_many (get_or behind 0 Many) ≡ true →
    IsFirst taken left first run t found → IsLeft taken run (left found.start) (left found.behind) → accepts_by taken rest t ≡ answer → accepts_by taken behind (left found.behind) ≡ answer
run_goes_on taken law star left rest first run behind t found answer parts many ones part some next starts behind_run so_far =
    let decides = run_decides taken law star first run behind (rw parts at many) ones (rw parts at part) some next in
    sym (decides (left found.start) (left found.behind) behind_run) ∙ sym (starts behind) ∙ (rw parts at so_far)

-- behind the last piece for any number there is nothing
pub rest_taken : {X : Type 0} (taken : Piece → X → Bool) (rest : List Piece) (first : Piece) (run behind : List Piece) (t : List X) (answer taken_all : Bool) → rest ≡ first ∷ (run ++ behind) → IsRun run →
    behind ≡ [] → is_many (last_or One rest) ≡ true → taken_all ≡ accepts_by taken (first ∷ []) t → accepts_by taken rest t ≡ answer → taken_all ≡ answer
rest_taken taken rest first run behind t answer taken_all parts ones none last is so_far =
    let alone : run ≡ [] = no_run first run ones (rw (parts, none) at last) in
    is ∙ (rw (parts, none, alone) at so_far)

-- ---- characters, and the pieces of another pattern

narrow-character : (p : Piece) (c : ℕ) → is_narrow p ≡ true → takes p c ≡ true → takes ManyNoColon c ≡ true
narrow-character p c n h =
    elim (cases_Bool (c == 58)) [
      | inl e ↦ absurd (both_ways (takes p 58) (not-true (takes p 58) n) (subst (λ k. takes p k ≡ true) (eqb-true c 58 e) h))
      | inr e ↦ rw e refl
    ]

colon-character : (c : ℕ) → takes (Lit 58) c ≡ true → takes ManyNoColon c ≡ false
colon-character c h = ap not h

pub characters_narrow : IsNarrowing takes
characters_narrow = (narrow-character, colon-character)

narrow-wide : (p : Piece) → is_narrow p ≡ true → is_wide p ≡ false
narrow-wide (Lit d) n = refl
narrow-wide (LitFold d) n = refl
narrow-wide One n = absurd (cc)
narrow-wide Many n = absurd (cc)
narrow-wide OneNoColon n = refl
narrow-wide ManyNoColon n = refl

narrow-takes : (p x : Piece) → is_narrow p ≡ true → takes_piece p x ≡ true → takes_piece ManyNoColon x ≡ true
narrow-takes p (Lit d) n h = narrow-character p d n h
narrow-takes p (LitFold d) n h =
    let both = and_parts (takes p d) (takes p (to_ascii_uppercase d)) h in
    and_from _ _ (narrow-character p d n both.0) (narrow-character p (to_ascii_uppercase d) n both.1)
narrow-takes p One n h = absurd (both_ways (is_wide p) (narrow-wide p n) h)
narrow-takes p Many n h = absurd (both_ways (is_wide p) (narrow-wide p n) h)
narrow-takes p OneNoColon n h = refl
narrow-takes p ManyNoColon n h = refl

narrow-piece : (p x : Piece) → is_narrow p ≡ true → takes_next p x ≡ true → takes_next ManyNoColon x ≡ true
narrow-piece p x n h = narrow-takes p x n (and_parts (is_many p || not (is_many x)) (takes_piece p x) h).1

colon-piece : (x : Piece) → takes_next (Lit 58) x ≡ true → takes_next ManyNoColon x ≡ false
colon-piece (Lit d) h = ap not h
colon-piece (LitFold d) h =
    let own : (d == 58) ≡ true = (and_parts (d == 58) (to_ascii_uppercase d == 58) h).0 in rw own refl
colon-piece One h = absurd (cc)
colon-piece Many h = absurd (cc)
colon-piece OneNoColon h = absurd (cc)
colon-piece ManyNoColon h = absurd (cc)

pub pieces_narrow : IsNarrowing takes_next
pieces_narrow = (narrow-piece, colon-piece)
