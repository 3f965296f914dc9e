-- Each line that is written is read as what it was.
use Rattle.std.proofs.Common.{◌≡◌, ◌≢◌, ℕ, ◌^◌, ◌<◌, ◌≤◌, Bool, true, false, ◌&&◌, List, [], ◌∷◌, ◌++◌, map, codes, eqb, decimal, Some, option_map, All, refl, ap, ◌∙◌, arith, ne_eqb, leb-true}
use Rattle.std.specs.Prelude.{nat_le, option_and_then}
use Rattle.std.specs.List.{concat, join_with_byte, slice_split}
use Rattle.std.proofs.lemmas.List.Elements.{All-head, All-tail, All-nil, All-cons, All-weaker, All-append}
use Rattle.formula_tree.specs.Answers.{Answers}
use Rattle.proof_text.specs.declared.limits.TheConstants.{MOST_NUMBER}
use Rattle.proof_text.specs.Faults.{answered_tests}
use Rattle.proof_text.specs.Laws.{AreListsSmall, AreSmall, HasSmallNumbers}
use Rattle.proof_text.specs.LineForms.{Expected, ExpectClosedSet, ExpectKindProof, ExpectNode, ExpectSlotProof, ExpectState, ExpectVersion, content_said, label_said, line_said, said_in}
use Rattle.proof_text.specs.Lines.{Line, certificate_line, split_line, value_line, slot_line, clauses_line, label_line, reuse_line}
use Rattle.proof_text.specs.Lines.{points_line, absent_line, required_line, closed_line, kinds_line, never_line, member_line, some_line, places_line}
use Rattle.proof_text.specs.Lines.{line_parts, line_text, places_part, answer_part}
use Rattle.proof_text.proofs.Cutting.{IsFree, content-again, joined-free, split-join}
use Rattle.proof_text.proofs.Decimals.{answers-free, answers-written, decimal-free, decimals-free, lists-free, lists-written, number-written, numbers-written}

-- ---- bounds

within : (n : ℕ) → n ≤ MOST_NUMBER → n < 2 ^ 64
within n small = omega arith

pub all-within : (ns : List ℕ) → AreSmall ns → All (λ n. n < 2 ^ 64) ns
all-within ns small = All-weaker (λ n. n ≤ MOST_NUMBER) (λ n. n < 2 ^ 64) within ns small

pub lists-within : (lists : List (List ℕ)) → AreListsSmall lists → All (All (λ n. n < 2 ^ 64)) lists
lists-within lists small = All-weaker AreSmall (All (λ n. n < 2 ^ 64)) all-within lists small

answers-within : (given : Answers) → AreSmall (answered_tests given) → All (λ a. a.0 < 2 ^ 64) given
answers-within [] small = All-nil (λ (a : ℕ × Bool). a.0 < 2 ^ 64)
answers-within (a ∷ given) small =
    All-cons (λ (b : ℕ × Bool). b.0 < 2 ^ 64) a given (within a.0 (All-head (λ n. n ≤ MOST_NUMBER) a.0 (answered_tests given) small))
    (answers-within given (All-tail (λ n. n ≤ MOST_NUMBER) a.0 (answered_tests given) small))

All-front : (P : ℕ → Type 0) (xs ys : List ℕ) → All P (xs ++ ys) → All P xs
All-front P [] ys all = All-nil P
All-front P (x ∷ xs) ys all = All-cons P x xs (All-head P x (xs ++ ys) all) (All-front P xs ys (All-tail P x (xs ++ ys) all))

All-back : (P : ℕ → Type 0) (xs ys : List ℕ) → All P (xs ++ ys) → All P ys
All-back P [] ys all = all
All-back P (x ∷ xs) ys all = All-back P xs ys (All-tail P x (xs ++ ys) all)

pub lists-small : (lists : List (List ℕ)) → AreSmall (concat lists) → AreListsSmall lists
lists-small [] small = All-nil AreSmall
lists-small (ns ∷ lists) small =
    All-cons AreSmall ns lists (All-front (λ n. n ≤ MOST_NUMBER) ns (concat lists) small)
    (lists-small lists (All-back (λ n. n ≤ MOST_NUMBER) ns (concat lists) small))

pub concat-small : (lists : List (List ℕ)) → AreListsSmall lists → AreSmall (concat lists)
concat-small [] small = All-nil (λ n. n ≤ MOST_NUMBER)
concat-small (ns ∷ lists) small =
    All-append (λ n. n ≤ MOST_NUMBER) ns (concat lists) (All-head AreSmall ns lists small) (concat-small lists (All-tail AreSmall ns lists small))

-- ---- what divides parts and lines stands in no part

-- the byte is none of those that parts are written with
pub record IsBreak (c : ℕ) : Type 0 where
  pub plus : eqb 43 c ≡ false
  pub comma : eqb 44 c ≡ false
  pub dash : eqb 45 c ≡ false
  pub below : c < 48

pub space : IsBreak 32
space = record { plus = refl; comma = refl; dash = refl; below = omega arith }

pub line_feed : IsBreak 10
line_feed = record { plus = refl; comma = refl; dash = refl; below = omega arith }

abbrev are_letters : List ℕ → Bool
are_letters [] = true
are_letters (b ∷ bs) = nat_le 48 b && are_letters bs

both : (p q : Bool) → (p && q) ≡ true → (p ≡ true) × (q ≡ true)
both true q e = (refl, e)
both false q e = absurd (cc)

letters-free : (c : ℕ) (bs : List ℕ) → c < 48 → are_letters bs ≡ true → IsFree c bs
letters-free c [] below e = All-nil (λ x. eqb x c ≡ false)
letters-free c (b ∷ bs) below e =
    let parts = both (nat_le 48 b) (are_letters bs) e in
    let high : 48 ≤ b = leb-true 48 b parts.0 in
    All-cons (λ x. eqb x c ≡ false) b bs (ne_eqb b c (omega arith)) (letters-free c bs below parts.1)

alone : (c : ℕ) (word : List ℕ) → IsBreak c → are_letters word ≡ true → All (IsFree c) (word ∷ [])
alone c word break letters = All-cons (IsFree c) word [] (letters-free c word break.below letters) (All-nil (IsFree c))

counted : (c : ℕ) (word : List ℕ) (n : ℕ) → IsBreak c → are_letters word ≡ true → AreSmall (n ∷ []) → All (IsFree c) (word ∷ decimal n ∷ [])
counted c word n break letters small =
    All-cons (IsFree c) word (decimal n ∷ []) (letters-free c word break.below letters) (decimals-free c (n ∷ []) break.below (all-within (n ∷ []) small))

listed : (c : ℕ) (word : List ℕ) (ns : List ℕ) → IsBreak c → are_letters word ≡ true → AreSmall ns → All (IsFree c) (word ∷ map decimal ns)
listed c word ns break letters small =
    All-cons (IsFree c) word (map decimal ns) (letters-free c word break.below letters) (decimals-free c ns break.below (all-within ns small))

pub parts-free : (c : ℕ) (l : Line) → IsBreak c → HasSmallNumbers l → All (IsFree c) (line_parts l)
parts-free c (certificate_line n) break small = counted c (codes "certificate") n break refl small
parts-free c (split_line n) break small = counted c (codes "split") n break refl small
parts-free c value_line break small = alone c (codes "value") break refl
parts-free c (slot_line ns) break small = listed c (codes "slot") ns break refl small
parts-free c (clauses_line ns) break small = listed c (codes "clauses") ns break refl small
parts-free c (label_line n given) break small =
    All-cons (IsFree c) (codes "label") (decimal n ∷ map answer_part given) (letters-free c (codes "label") break.below refl)
    (All-cons (IsFree c) (decimal n) (map answer_part given) (decimal-free c n break.below (within n (All-head (λ m. m ≤ MOST_NUMBER) n (answered_tests given) small)))
    (answers-free c given break.plus break.dash break.below (answers-within given (All-tail (λ m. m ≤ MOST_NUMBER) n (answered_tests given) small))))
parts-free c (reuse_line n) break small = counted c (codes "reuse") n break refl small
parts-free c points_line break small = alone c (codes "points") break refl
parts-free c absent_line break small = alone c (codes "absent") break refl
parts-free c required_line break small = alone c (codes "required") break refl
parts-free c (closed_line n) break small = counted c (codes "closed") n break refl small
parts-free c kinds_line break small = alone c (codes "kinds") break refl
parts-free c never_line break small = alone c (codes "never") break refl
parts-free c (member_line n) break small = counted c (codes "member") n break refl small
parts-free c some_line break small = alone c (codes "some") break refl
parts-free c (places_line lists) break small =
    All-cons (IsFree c) (codes "places") (map places_part lists) (letters-free c (codes "places") break.below refl)
    (lists-free c lists break.comma break.dash break.below (lists-within lists (lists-small lists small)))

-- the content of a line has no line feed
pub content-free : (l : Line) → HasSmallNumbers l → IsFree 10 (join_with_byte 32 (line_parts l))
content-free l small = joined-free 10 32 (line_parts l) refl (parts-free 10 l line_feed small)

-- ---- what a line says

-- the line is of a form that may stand there
pub data MayStand : Expected → Line → Type 0 where
  at_version : {n : ℕ} → MayStand ExpectVersion (certificate_line n)
  at_split : {depth n : ℕ} {inside : List ℕ} → MayStand (ExpectNode depth inside) (split_line n)
  at_value : {depth : ℕ} {inside : List ℕ} → MayStand (ExpectNode depth inside) value_line
  at_slot : {depth n : ℕ} {inside ns : List ℕ} → MayStand (ExpectNode depth inside) (slot_line (n ∷ ns))
  at_clauses : {depth n : ℕ} {inside ns : List ℕ} → MayStand (ExpectNode depth inside) (clauses_line (n ∷ ns))
  at_label : {depth n : ℕ} {inside : List ℕ} {given : Answers} → MayStand (ExpectNode depth inside) (label_line n given)
  at_reuse : {depth n : ℕ} {inside : List ℕ} → MayStand (ExpectNode depth inside) (reuse_line n)
  at_points : MayStand ExpectSlotProof points_line
  at_absent : MayStand ExpectSlotProof absent_line
  at_required : MayStand ExpectSlotProof required_line
  at_kinds : MayStand ExpectSlotProof kinds_line
  at_member : {n : ℕ} → MayStand ExpectSlotProof (member_line n)
  at_some : MayStand ExpectSlotProof some_line
  at_word : {n : ℕ} → MayStand ExpectSlotProof (closed_line n)
  at_never : MayStand ExpectKindProof never_line
  at_kind : {n : ℕ} → MayStand ExpectKindProof (closed_line n)
  at_closed : {n : ℕ} → MayStand ExpectClosedSet (closed_line n)
  at_places : {lists : List (List ℕ)} → MayStand ExpectState (places_line lists)

pub one-small : (n : ℕ) → AreSmall (n ∷ []) → n < 2 ^ 64
one-small n small = within n (All-head (λ m. m ≤ MOST_NUMBER) n [] small)

pub label-again : (n : ℕ) (given : Answers) → HasSmallNumbers (label_line n given) → label_said (decimal n ∷ map answer_part given) ≡ Some (label_line n given)
label-again n given small =
    rw (number-written n (within n (All-head (λ m. m ≤ MOST_NUMBER) n (answered_tests given) small)))
    (ap (option_map (label_line n)) (answers-written given (answers-within given (All-tail (λ m. m ≤ MOST_NUMBER) n (answered_tests given) small))))

parts-said : (e : Expected) (l : Line) → MayStand e l → HasSmallNumbers l → said_in e (line_parts l) ≡ Some l
parts-said e l (at_version {n}) small = ap (option_map certificate_line) (number-written n (one-small n small))
parts-said e l (at_split {depth} {n}) small = ap (option_map split_line) (number-written n (one-small n small))
parts-said e l at_value small = refl
parts-said e l (at_slot {depth} {n} {inside} {ns}) small = ap (option_map slot_line) (numbers-written (n ∷ ns) (all-within (n ∷ ns) small))
parts-said e l (at_clauses {depth} {n} {inside} {ns}) small = ap (option_map clauses_line) (numbers-written (n ∷ ns) (all-within (n ∷ ns) small))
parts-said e l (at_label {depth} {n} {inside} {given}) small = label-again n given small
parts-said e l (at_reuse {depth} {n}) small = ap (option_map reuse_line) (number-written n (one-small n small))
parts-said e l at_points small = refl
parts-said e l at_absent small = refl
parts-said e l at_required small = refl
parts-said e l at_kinds small = refl
parts-said e l (at_member {n}) small = ap (option_map member_line) (number-written n (one-small n small))
parts-said e l at_some small = refl
parts-said e l (at_word {n}) small = ap (option_map closed_line) (number-written n (one-small n small))
parts-said e l at_never small = refl
parts-said e l (at_kind {n}) small = ap (option_map closed_line) (number-written n (one-small n small))
parts-said e l (at_closed {n}) small = ap (option_map closed_line) (number-written n (one-small n small))
parts-said e l (at_places {lists}) small = ap (option_map places_line) (lists-written lists (lists-within lists (lists-small lists small)))

pub parts-again : (parts : List (List ℕ)) → parts ≢ [] → All (IsFree 32) parts → slice_split (λ b. eqb b 32) (join_with_byte 32 parts) ≡ parts
parts-again [] some free = absurd (some refl)
parts-again (part ∷ parts) some free = split-join 32 part parts free

pub parts-some : (l : Line) → line_parts l ≢ []
parts-some (certificate_line n) e = cc
parts-some (split_line n) e = cc
parts-some value_line e = cc
parts-some (slot_line ns) e = cc
parts-some (clauses_line ns) e = cc
parts-some (label_line n given) e = cc
parts-some (reuse_line n) e = cc
parts-some points_line e = cc
parts-some absent_line e = cc
parts-some required_line e = cc
parts-some (closed_line n) e = cc
parts-some kinds_line e = cc
parts-some never_line e = cc
parts-some (member_line n) e = cc
parts-some some_line e = cc
parts-some (places_line lists) e = cc

-- a line that may stand there says what it was
pub said-again : (e : Expected) (l : Line) → MayStand e l → HasSmallNumbers l → line_said e (line_text l) ≡ Some l
said-again e l may small =
    ap (option_and_then (content_said e)) (content-again (join_with_byte 32 (line_parts l))) ∙
    ap (said_in e) (parts-again (line_parts l) (parts-some l) (parts-free 32 l space small)) ∙ parts-said e l may small
