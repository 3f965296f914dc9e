-- Where a run of pieces for one item each is refused, and what a star behind it makes of the first place that takes it.
use Rattle.std.proofs.Common.{◌≡◌, ℕ, zero, suc, ◌+◌, ◌-◌, ◌<◌, ◌≤◌, List, [], ◌∷◌, ◌++◌, length, drop, get_or, Bool, true, false, not, slice_get, Some, refl, sym, ap, subst, ◌∙◌, inl, inr, arith, add-one}
use Rattle.std.proofs.lemmas.List.{drop_more, drop_all, get_or_default}
use Rattle.std.proofs.lemmas.Option.{slice_get_within, get_or_from_slice_get}
use Rattle.std.proofs.lemmas.List.Elements.{All-head, All-tail, All-get_or}
use Rattle.std.proofs.lemmas.Bool.{or_cases, or_left, or_right, and_parts, not-true, both_ways}
use Rattle.wildcard_lang.specs.declared.piece.Piece.{Piece}
use Rattle.wildcard_lang.specs.declared.piece.Piece.TheVariants.{One, Many}
use Rattle.wildcard_lang.specs.Matching.{is_many}
use Rattle.wildcard_lang.specs.Accepts.{accepts_by, accepts_many}
use Rattle.wildcard_lang.specs.Runs.{IsRun, IsRefused, IsLeft, IsReached, Refutes, refuses, behind_first}

-- ---- one piece for one item

one-taken : {X : Type 0} (taken : Piece → X → Bool) (p : Piece) (ps : List Piece) (t : List X) → is_many p ≡ false → refuses taken p t ≡ false →
    accepts_by taken (p ∷ ps) t ≡ accepts_by taken ps (behind_first t)
one-taken taken p ps [] one h = absurd (both_ways _ h refl)
one-taken taken p ps (x ∷ t) one h = let is : taken p x ≡ true = grind (arith, h) in rw (one, is) refl

pub one-refused : {X : Type 0} (taken : Piece → X → Bool) (p : Piece) (ps : List Piece) (t : List X) → is_many p ≡ false → refuses taken p t ≡ true →
    accepts_by taken (p ∷ ps) t ≡ false
one-refused taken p ps [] one h = rw one refl
one-refused taken p ps (x ∷ t) one h = let is : taken p x ≡ false = not-true (taken p x) h in rw (one, is) refl

-- ---- a run

pub run-head : (p : Piece) (run : List Piece) → IsRun (p ∷ run) → is_many p ≡ false
run-head p run ones = All-head (λ q. is_many q ≡ false) p run ones

pub run-tail : (p : Piece) (run : List Piece) → IsRun (p ∷ run) → IsRun run
run-tail p run ones = All-tail (λ q. is_many q ≡ false) p run ones

pub refused_at : {X : Type 0} (taken : Piece → X → Bool) (run : List Piece) (place : ℕ) (d : Piece) (t : List X) → IsRun run → place < length run →
    refuses taken (get_or run place d) (drop place t) ≡ true → IsRefused taken run t
refused_at taken [] place d t ones within h ps = absurd (omega arith)
refused_at taken (p ∷ run) zero d t ones within h ps = one-refused taken p (run ++ ps) t (run-head p run ones) h
refused_at taken (p ∷ run) (suc k) d [] ones within h ps = one-refused taken p (run ++ ps) [] (run-head p run ones) refl
refused_at taken (p ∷ run) (suc k) d (x ∷ t) ones within h ps =
    let one : is_many p ≡ false = run-head p run ones in
    let rest : accepts_by taken (run ++ ps) t ≡ false = refused_at taken run k d t (run-tail p run ones) (omega arith) h ps in
    rw (one, rest) (grind arith)

-- which an answer told
pub refuted : {X : Type 0} (taken : Piece → X → Bool) (run : List Piece) (place : ℕ) (d : Piece) (ahead : List X) (answer : Bool) → IsRun run → place < length run →
    answer ≡ refuses taken (get_or run place d) ahead → answer ≡ true → Refutes taken run place ahead
refuted taken run place d ahead answer ones within is h t at =
    refused_at taken run place d t ones within (ap (refuses taken (get_or run place d)) (sym at) ∙ sym is ∙ h)

-- the item at the place was found by its index
pub refused_where : {X : Type 0} (taken : Piece → X → Bool) (run : List Piece) (place : ℕ) (d : Piece) (x : X) (t : List X) → IsRun run → place < length run →
    slice_get t place ≡ Some x → not (taken (get_or run place d) x) ≡ true → IsRefused taken run t
refused_where taken run place d x t ones within is h =
    let here : drop place t ≡ x ∷ drop (place + 1) t = drop_more t place x (slice_get_within t place x is) ∙ ap (λ y. y ∷ drop (place + 1) t) (get_or_from_slice_get t place x x is) in
    refused_at taken run place d t ones within (ap (refuses taken (get_or run place d)) here ∙ h)

pub drop-nil : {X : Type 0} (i : ℕ) → drop {A = X} i [] ≡ []
drop-nil zero = refl
drop-nil (suc i) = refl

drop-behind : {X : Type 0} (i : ℕ) (t : List X) → behind_first (drop i t) ≡ drop (suc i) t
drop-behind zero [] = refl
drop-behind zero (x ∷ t) = refl
drop-behind (suc i) [] = refl
drop-behind (suc i) (x ∷ t) = drop-behind i t

-- ---- how far a run takes the items

-- so far it does
pub record Reaches {X : Type 0} (taken : Piece → X → Bool) (run : List Piece) (t : List X) (place : ℕ) (ahead : List X) : Type 0 where
  pub at : ahead ≡ drop place t
  pub left : (ps : List Piece) → accepts_by taken (run ++ ps) t ≡ accepts_by taken (drop place run ++ ps) ahead

pub reaches_first : {X : Type 0} (taken : Piece → X → Bool) (run : List Piece) (t : List X) → Reaches taken run t 0 t
reaches_first taken run t = record { at = refl; left = λ ps. refl }

pub reaches_more : {X : Type 0} (taken : Piece → X → Bool) (run : List Piece) (place : ℕ) (d : Piece) (t ahead next : List X) (answer : Bool) → IsRun run → place < length run →
    answer ≡ refuses taken (get_or run place d) ahead → answer ≡ false → next ≡ behind_first ahead → Reaches taken run t place ahead → Reaches taken run t (place + 1) next
reaches_more taken run place d t ahead next answer ones within is h behind r = record {
  at = behind ∙ ap behind_first r.at ∙ drop-behind place t ∙ ap (λ n. drop n t) (sym (add-one place));
  left = λ ps.
      let more : drop place run ≡ get_or run place d ∷ drop (place + 1) run = drop_more run place d within in
      let one : is_many (get_or run place d) ≡ false = All-get_or (λ p. is_many p ≡ false) run place d within ones in
      r.left ps ∙ ap (λ (qs : List Piece). accepts_by taken (qs ++ ps) ahead) more ∙
      one-taken taken (get_or run place d) (drop (place + 1) run ++ ps) ahead one (sym is ∙ h) ∙
      ap (accepts_by taken (drop (place + 1) run ++ ps)) (sym behind);
}

pub reached_part : {X : Type 0} (taken : Piece → X → Bool) (run : List Piece) (place : ℕ) (d : Piece) (t ahead : List X) (answer : Bool) → place < length run →
    answer ≡ refuses taken (get_or run place d) ahead → answer ≡ true → Reaches taken run t place ahead → IsReached taken run t place ahead
reached_part taken run place d t ahead answer within is h r = record {
  most = omega arith;
  at = r.at;
  left = r.left;
  fails = λ w. ap (λ p. refuses taken p ahead) (get_or_default run place One d within) ∙ sym is ∙ h;
}

pub reached_whole : {X : Type 0} (taken : Piece → X → Bool) (run : List Piece) (place n : ℕ) (t ahead : List X) → place ≡ n → n ≡ length run → Reaches taken run t place ahead → IsReached taken run t n ahead
reached_whole taken run place n t ahead same whole r = record {
  most = omega arith;
  at = r.at ∙ ap (λ m. drop m t) same;
  left = λ ps. r.left ps ∙ ap (λ m. accepts_by taken (drop m run ++ ps) ahead) same;
  fails = λ w. absurd (omega arith);
}

-- the whole run is reached
pub left_behind : {X : Type 0} (taken : Piece → X → Bool) (run : List Piece) (place : ℕ) (t ahead : List X) → place ≡ length run → IsReached taken run t place ahead → IsLeft taken run t ahead
left_behind taken run place t ahead whole r =
    let none : drop place run ≡ [] = drop_all place run (omega arith) in
    (r.at ∙ ap (λ n. drop n t) whole, λ ps. r.left ps ∙ ap (λ (qs : List Piece). accepts_by taken (qs ++ ps) ahead) none)

-- ---- a star behind the run

pub run_taken : {X : Type 0} (taken : Piece → X → Bool) (run ps : List Piece) (t : List X) → IsRun run → accepts_by taken (run ++ ps) t ≡ true →
    accepts_by taken ps (drop (length run) t) ≡ true
run_taken taken [] ps t ones h = h
run_taken taken (p ∷ run) ps [] ones h = absurd (both_ways _ (one-refused taken p (run ++ ps) [] (run-head p run ones) refl) h)
run_taken taken (p ∷ run) ps (x ∷ t) ones h =
    let one : is_many p ≡ false = run-head p run ones in
    let both = and_parts (taken p x) (accepts_by taken (run ++ ps) t) (rw one at h) in run_taken taken run ps t (run-tail p run ones) both.1

star_later : {X : Type 0} (taken : Piece → X → Bool) → ((x : X) → taken Many x ≡ true) → (ps : List Piece) (n : ℕ) (x : X) (t : List X) →
    accepts_by taken (Many ∷ ps) (drop n t) ≡ true → accepts_by taken (Many ∷ ps) (drop n (x ∷ t)) ≡ true
star_later taken star ps zero x t h = rw (star x, h) (or_right (accepts_by taken ps (x ∷ t)) true refl)
star_later taken star ps (suc n) x [] h = subst (λ u. accepts_by taken (Many ∷ ps) u ≡ true) (sym (drop-nil n)) h
star_later taken star ps (suc n) x (y ∷ t) h = star_later taken star ps n y t h

-- wherever the run is taken, the star behind it takes what it leaves more at the first place
run_later : {X : Type 0} (taken : Piece → X → Bool) → ((x : X) → taken Many x ≡ true) → (first : Piece) (run ps : List Piece) (t : List X) → IsRun run →
    accepts_many (accepts_by taken (run ++ Many ∷ ps)) (taken first) t ≡ true → accepts_by taken (Many ∷ ps) (drop (length run) t) ≡ true
run_later taken star first run ps [] ones h = run_taken taken run (Many ∷ ps) [] ones h
run_later taken star first run ps (x ∷ t) ones h =
    elim (or_cases (accepts_by taken (run ++ Many ∷ ps) (x ∷ t)) _ h) [
      | inl e ↦ run_taken taken run (Many ∷ ps) (x ∷ t) ones e
      | inr e ↦
          let both = and_parts (taken first x) (accepts_many (accepts_by taken (run ++ Many ∷ ps)) (taken first) t) e in
          star_later taken star ps (length run) x t (run_later taken star first run ps t ones both.1)
    ]

many_done : {X : Type 0} (rest : List X → Bool) (takes : X → Bool) (t : List X) → rest t ≡ true → accepts_many rest takes t ≡ true
many_done rest takes [] h = h
many_done rest takes (x ∷ t) h = or_left (rest (x ∷ t)) _ h

same_truth : (a b : Bool) → (a ≡ true → b ≡ true) → (b ≡ true → a ≡ true) → a ≡ b
same_truth true b to from = sym (to refl)
same_truth false true to from = from refl
same_truth false false to from = refl

-- what the run leaves decides, where each later place of the run leaves what is matched here as well
pub decided_by : {X : Type 0} (taken : Piece → X → Bool) (first : Piece) (run behind : List Piece) (t u : List X) → is_many first ≡ true → IsLeft taken run t u →
    (accepts_many (accepts_by taken (run ++ behind)) (taken first) t ≡ true → accepts_by taken behind (drop (length run) t) ≡ true) →
    accepts_by taken (first ∷ (run ++ behind)) t ≡ accepts_by taken behind u
decided_by taken first run behind t u many is later =
    let whole : accepts_by taken (first ∷ (run ++ behind)) t ≡ accepts_many (accepts_by taken (run ++ behind)) (taken first) t = rw many refl in
    whole ∙ same_truth _ _
    (λ h. subst (λ v. accepts_by taken behind v ≡ true) (sym is.0) (later h))
    (λ h. many_done (accepts_by taken (run ++ behind)) (taken first) t (is.1 behind ∙ h))

pub first_ends : {X : Type 0} (taken : Piece → X → Bool) → ((x : X) → taken Many x ≡ true) → (first : Piece) (run : List Piece) (t behind : List X) → is_many first ≡ true → IsRun run →
    IsLeft taken run t behind → (ps : List Piece) → accepts_by taken (first ∷ (run ++ Many ∷ ps)) t ≡ accepts_by taken (Many ∷ ps) behind
first_ends taken star first run t behind many ones is ps =
    decided_by taken first run (Many ∷ ps) t behind many is (run_later taken star first run ps t ones)

-- ---- the next start

-- the item at a place moves there with the start
pub place_moves : {X : Type 0} (i : ℕ) (x : X) (t ahead : List X) → ahead ≡ drop i (x ∷ t) → behind_first ahead ≡ drop i t
place_moves i x t ahead is = ap behind_first is ∙ drop-behind i (x ∷ t)

-- and stands one place lower where it stays
pub item_moves : {X : Type 0} (i : ℕ) (x : X) (t ahead : List X) → 1 ≤ i → ahead ≡ drop i (x ∷ t) → ahead ≡ drop (i - 1) t
item_moves i x t ahead some is = let e : i ≡ suc (i - 1) = omega arith in is ∙ ap (λ n. drop n (x ∷ t)) e
