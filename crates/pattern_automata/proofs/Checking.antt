-- The check of a closed set: the marks of its lists tell the lists, where their places fit.
use Rattle.std.proofs.Common.{◌≡◌, ℕ, zero, suc, ◌+◌, ◌<◌, ◌≤◌, List, [], ◌∷◌, ◌++◌, length, get_or, Bool, true, false, cond, nat_le, slice_get, Some, Result, Ok, Err, IfOk, ◌↔◌, All, Contains, refl, sym, ap, ◌∙◌, subst, inl, inr, arith, take, drop, add-one}
use Rattle.std.specs.List.{list_all}
use Rattle.std.proofs.lemmas.Bool.{cases_eq, and_parts, and_from}
use Rattle.std.proofs.lemmas.Bool.Decides.{nat_tests}
use Rattle.std.proofs.lemmas.List.{append_assoc, append-nil, take_at, drop_at, get_or_append_left, get_or-append-add, get_or-drop, length-drop, at_drop_more}
use Rattle.std.proofs.lemmas.List.Elements.{All-contains, Contains-get_or}
use Rattle.std.proofs.lemmas.Option.{slice_get_within, get_or_from_slice_get, slice_get-get_or}
use mir.Val.{bool_byte}
use Rattle.wildcard_lang.specs.declared.piece.Piece.{Piece}
use Rattle.std.specs.Char.{IsScalar}
use Rattle.wildcard_lang.specs.Accepts.{tests, reaches, accepts}
use Rattle.wildcard_lang.proofs.Laws.{length-tests, get_or-tests, rising-same}
use Rattle.pattern_automata.specs.declared.wants.Literal.{Literal}
use Rattle.pattern_automata.specs.declared.wants.Wants.{Wants}
use Rattle.wildcard_lang.specs.Places.{contains_place, passing_numbers, lists_of, step_lists}
use Rattle.pattern_automata.specs.Closed.{rises_from, all_rise, IsShaped, InRange, lists_meet, IsClosedUnder}
use Rattle.pattern_automata.specs.Machine.{IsMachine}
use Rattle.pattern_automata.specs.declared.machine.Machine.{Machine}
use Rattle.pattern_automata.specs.Marks.{marks_from, mark_count}
use Rattle.pattern_automata.specs.Tree.{IsEnds, words_meet}
use Rattle.pattern_automata.specs.Packed.{all_words, pack}
use Rattle.pattern_automata.proofs.Packing.{mark-pack, pack-same}
use Rattle.pattern_automata.proofs.Indexing.{length-marks_from}
use Rattle.pattern_automata.specs.Checked.{places_fit, words_from, AreIndexed, HasStateOf, HavePassed, IsOfMarks, PassesBy}
use Rattle.pattern_automata.proofs.Empty.{clauses_hold-same, representative}
use Rattle.pattern_automata.proofs.Leading.{reached-from, all_marks-from}
use Rattle.pattern_automata.proofs.Answering.{from-rising, shaped-lists}
use Rattle.pattern_automata.proofs.Standing.{stands}

tests-push : (f : ℕ → Bool) (i k : ℕ) → tests f i (suc k) ≡ tests f i k ++ f (i + k) ∷ []
tests-push f i zero = let e : i + 0 ≡ i = omega arith in rw e refl
tests-push f i (suc k) =
    let e : i + 1 + k ≡ i + suc k = omega arith in
    ap (λ x. f i ∷ x) (rw e at (tests-push f (i + 1) k))

push-mark : (list : List ℕ) (j : ℕ) (old marks new : List Bool) (b : Bool) → b ≡ contains_place list j → marks ≡ old ++ tests (contains_place list) 0 j → new ≡ marks ++ b ∷ [] →
    new ≡ old ++ tests (contains_place list) 0 (j + 1)
push-mark list j old marks new b is are pushed =
    let z : 0 + j ≡ j = omega arith in
    let t : tests (contains_place list) 0 (suc j) ≡ tests (contains_place list) 0 j ++ contains_place list j ∷ [] = rw z at (tests-push (contains_place list) 0 j) in
    rw (pushed, are, is, add-one, t) (append_assoc old (tests (contains_place list) 0 j) (contains_place list j ∷ []))

-- ---- a rising list, place by place

none-below : (i j : ℕ) (l : List ℕ) → j < i → rises_from i l ≡ true → contains_place l j ≡ false
none-below i j [] h r = refl
none-below i j (k ∷ ks) h r = grind (arith, nat_tests, none-below (k + 1) j ks)

has-next : (i j : ℕ) (js : List ℕ) → i < j → contains_place (i ∷ js) j ≡ contains_place js j
has-next i j js h = grind (arith, nat_tests)

-- the places from the one at `next` on are at least j; `there` says whether that is j
module _ (j : ℕ) (rest : List ℕ) (rises : rises_from j rest ≡ true) where
  pub next-there : (k : ℕ) (ks : List ℕ) → rest ≡ k ∷ ks → k ≡ j → (contains_place rest j ≡ true) × (rises_from (j + 1) ks ≡ true) × ((x : ℕ) → j + 1 ≤ x → contains_place rest x ≡ contains_place ks x)
  next-there k ks is at =
      let parts : (nat_le j k ≡ true) × (rises_from (k + 1) ks ≡ true) = and_parts (nat_le j k) (rises_from (k + 1) ks) (rw is at rises) in (
        rw (is, at) (grind (arith, nat_tests)),
        rw at at parts.1,
        λ x h. rw is (has-next k x ks (omega arith)),
      )

  pub next-not : ((k : ℕ) (ks : List ℕ) → rest ≡ k ∷ ks → k ≡ j → ⊥) → (contains_place rest j ≡ false) × (rises_from (j + 1) rest ≡ true)
  next-not none =
      let more : rises_from (j + 1) rest ≡ true = by rest refl in
      (none-below (j + 1) j rest (omega arith) more, more)
    where
      by : (l : List ℕ) → rest ≡ l → rises_from (j + 1) rest ≡ true
      by [] e = rw e refl
      by (k ∷ ks) e =
          let parts : (nat_le j k ≡ true) × (rises_from (k + 1) ks ≡ true) = and_parts (nat_le j k) (rises_from (k + 1) ks) (rw e at rises) in
          let ne : k ≡ j → ⊥ = none k ks e in
          rw e (grind (arith, nat_tests, parts.0, parts.1, ne))

module _ (list : List ℕ) (j next : ℕ) (old marks : List Bool) (are : marks ≡ old ++ tests (contains_place list) 0 j) (rises : rises_from j (drop next list) ≡ true)
    (same : (x : ℕ) → j ≤ x → contains_place list x ≡ contains_place (drop next list) x) (within : next ≤ length list) where
  -- one more mark, and the next place that is left
  pub marks-next : (there : Bool) (new : List Bool) (more : ℕ) → (there ≡ true) ↔ (slice_get list next ≡ Some j) → new ≡ marks ++ there ∷ [] → more ≡ next + bool_byte there →
      (new ≡ old ++ tests (contains_place list) 0 (j + 1)) × (rises_from (j + 1) (drop more list) ≡ true) × ((x : ℕ) → j + 1 ≤ x → contains_place list x ≡ contains_place (drop more list) x) × (more ≤ length list)
  marks-next true new more is pushed grown =
      let at : slice_get list next ≡ Some j = is.0 refl in
      let h : next < length list = slice_get_within list next j at in
      let t = next-there j (drop next list) rises (get_or list next 0) (drop (next + 1) list) (at_drop_more (λ l. l) list next 0 h) (get_or_from_slice_get list next j 0 at) in
      let one : more ≡ next + 1 = grown in (
        push-mark list j old marks new true (sym (same j (omega arith) ∙ t.0)) are pushed,
        rw one t.1,
        λ x l. same x (omega arith) ∙ rw one (t.2 x l),
        omega (arith, one),
      )
  marks-next false new more is pushed grown =
      let one : more ≡ next = omega (arith, grown) in
      let t = next-not j (drop next list) rises (λ k ks e f.
      let h : next < length list = omega (arith, ap length e, length-drop next list) in
      let z : next + 0 ≡ next = omega arith in
      let first : get_or list next 0 ≡ k = sym (rw z at (get_or-drop next list 0 0)) ∙ ap (λ l. get_or l 0 0) e in
      let bad : false ≡ true = is.1 (slice_get-get_or list next 0 h ∙ ap Some (first ∙ f)) in
      absurd (cc)) in (
        push-mark list j old marks new false (sym (same j (omega arith) ∙ t.0)) are pushed,
        rw one t.1,
        λ x l. same x (omega arith) ∙ rw one refl,
        omega (arith, one),
      )

pub all_rise-at : (lists : List (List ℕ)) (i : ℕ) (l : List ℕ) → all_rise lists ≡ true → i < length lists → l ≡ get_or lists i l → rises_from 0 l ≡ true
all_rise-at [] i l r h e = absurd (omega arith)
all_rise-at (x ∷ xs) zero l r h e = rw e (and_parts (rises_from 0 x) (all_rise xs) r).0
all_rise-at (x ∷ xs) (suc i) l r h e = all_rise-at xs i l (and_parts (rises_from 0 x) (all_rise xs) r).1 (omega arith) e

marks_from-suc : (ps : List (List Piece)) (lists : List (List ℕ)) (i : ℕ) (p : List Piece) (l : List ℕ) → i < length ps → i < length lists → p ≡ get_or ps i p → l ≡ get_or lists i l →
    marks_from (take (suc i) ps) (take (suc i) lists) ≡ marks_from (take i ps) (take i lists) ++ tests (contains_place l) 0 (length p + 1)
marks_from-suc [] lists i p l h k e f = absurd (omega arith)
marks_from-suc (q ∷ qs) [] i p l h k e f = absurd (omega arith)
marks_from-suc (q ∷ qs) (m ∷ ms) zero p l h k e f = append-nil (tests (contains_place m) 0 (length q + 1)) ∙ rw (e, f) refl
marks_from-suc (q ∷ qs) (m ∷ ms) (suc i) p l h k e f =
    ap (λ x. tests (contains_place m) 0 (length q + 1) ++ x) (marks_from-suc qs ms i p l (omega arith) (omega arith) e f)
    ∙ sym (append_assoc (tests (contains_place m) 0 (length q + 1)) (marks_from (take i qs) (take i ms)) (tests (contains_place l) 0 (length p + 1)))

pub marks_from-more : (ps : List (List Piece)) (lists : List (List ℕ)) (i : ℕ) (p : List Piece) (l view : List ℕ) (n : ℕ) (marks new : List Bool) → i < length ps → length lists ≡ length ps →
    p ≡ get_or ps i p → l ≡ get_or lists i l → view ≡ l → n ≡ length p → marks ≡ marks_from (take i ps) (take i lists) → new ≡ marks ++ tests (contains_place view) 0 (n + 1) →
    new ≡ marks_from (take (i + 1) ps) (take (i + 1) lists)
marks_from-more ps lists i p l view n marks new h k e f v m are pushed =
    let a : i + 1 ≡ suc i = omega arith in
    rw (pushed, are, v, m, a) (sym (marks_from-suc ps lists i p l h (omega arith) e f))

-- the last mark of each pattern says whether the pattern matches in the list
last-of : (ps : List (List Piece)) (lists : List (List ℕ)) (k : ℕ) → length lists ≡ length ps → k < length ps →
    get_or (marks_from ps lists) (mark_count (take k ps) + length (get_or ps k [])) false ≡ contains_place (get_or lists k []) (length (get_or ps k []))
last-of [] lists k n h = absurd (omega arith)
last-of (p ∷ ps) [] k n h = absurd (omega arith)
last-of (p ∷ ps) (l ∷ ls) zero n h =
    let z : 0 + length p ≡ length p = omega arith in
    let t : length (tests (contains_place l) 0 (length p + 1)) ≡ length p + 1 = length-tests (contains_place l) 0 (length p + 1) in
    rw z (get_or_append_left (tests (contains_place l) 0 (length p + 1)) (marks_from ps ls) false (length p) (omega (arith, t)) ∙ (get_or-tests (contains_place l) 0 (length p + 1) (length p) (omega arith) ∙ ap (contains_place l) z))
last-of (p ∷ ps) (l ∷ ls) (suc k) n h =
    let t : length (tests (contains_place l) 0 (length p + 1)) ≡ length p + 1 = length-tests (contains_place l) 0 (length p + 1) in
    let e : length p + 1 + mark_count (take k ps) + length (get_or ps k []) ≡ length (tests (contains_place l) 0 (length p + 1)) + (mark_count (take k ps) + length (get_or ps k [])) = omega (arith, t) in
    rw (e, get_or-append-add (tests (contains_place l) 0 (length p + 1)) (marks_from ps ls) (mark_count (take k ps) + length (get_or ps k [])) false) (last-of ps ls k (omega arith) (omega arith))

pub meet-lists : (ps : List (List Piece)) (ends : List ℕ) (clauses : List (List Literal)) (lists : List (List ℕ)) → IsEnds ps ends → InRange (length ps) clauses → length lists ≡ length ps →
    words_meet ends clauses (pack (marks_from ps lists)) ≡ lists_meet ps clauses lists
meet-lists ps ends clauses lists are range n =
    clauses_hold-same _ _ (length ps) (λ i h. mark-pack (marks_from ps lists) (get_or ends i 0) ∙ (ap (λ x. get_or (marks_from ps lists) x false) (are.each i h) ∙ last-of ps lists i n h)) clauses range

-- a list that rises and fits is the list of the numbers that it has
rising-has : (n i k : ℕ) (l : List ℕ) → i + k ≡ n + 1 → rises_from i l ≡ true → list_all (λ j. nat_le j n) l ≡ true → passing_numbers (contains_place l) i k ≡ l
rising-has n i zero [] e r f = refl
rising-has n i zero (j ∷ js) e r f = absurd (grind (arith, nat_tests))
rising-has n i (suc k) [] e r f = rising-has n (i + 1) k [] (omega arith) refl refl
rising-has n i (suc k) (j ∷ js) e r f =
    let parts = and_parts (nat_le i j) (rises_from (j + 1) js) r in
    let fit = and_parts (nat_le j n) (list_all (λ x. nat_le x n) js) f in
    elim (cases_eq j i) [
      | inl same ↦
          let here : contains_place (j ∷ js) i ≡ true = grind (arith, nat_tests) in
          let rest : passing_numbers (contains_place (j ∷ js)) (i + 1) k ≡ js =
          rising-same (contains_place (j ∷ js)) (contains_place js) (i + 1) k (λ x a b. has-next j x js (omega arith))
          ∙ rising-has n (i + 1) k js (omega arith) (rw same at parts.1) fit.1 in
          rw (here, rest, same) refl
      | inr ne ↦
          let more : rises_from (i + 1) (j ∷ js) ≡ true = grind (arith, nat_tests) in
          let here : contains_place (j ∷ js) i ≡ false = none-below (i + 1) i (j ∷ js) (omega arith) more in
          rw here (rising-has n (i + 1) k (j ∷ js) (omega arith) more f)
    ]

same-list : (n : ℕ) (a b : List ℕ) → rises_from 0 a ≡ true → rises_from 0 b ≡ true → list_all (λ j. nat_le j n) a ≡ true → list_all (λ j. nat_le j n) b ≡ true →
    tests (contains_place a) 0 (n + 1) ≡ tests (contains_place b) 0 (n + 1) → a ≡ b
same-list n a b r s f g e =
    let agree : (j : ℕ) → 0 ≤ j → j < 0 + (n + 1) → contains_place a j ≡ contains_place b j =
    λ j l h.
    let z : 0 + j ≡ j = omega arith in
    ap (contains_place a) (sym z) ∙ (sym (get_or-tests (contains_place a) 0 (n + 1) j (omega arith)) ∙ (ap (λ x. get_or x j false) e ∙ (get_or-tests (contains_place b) 0 (n + 1) j (omega arith) ∙ ap (contains_place b) z))) in
    sym (rising-has n 0 (n + 1) a (omega arith) r f) ∙ (rising-same (contains_place a) (contains_place b) 0 (n + 1) agree ∙ rising-has n 0 (n + 1) b (omega arith) s g)

pub same-lists : (ps : List (List Piece)) (a b : List (List ℕ)) → IsShaped ps a → IsShaped ps b → places_fit ps a ≡ true → places_fit ps b ≡ true →
    marks_from ps a ≡ marks_from ps b → a ≡ b
same-lists [] [] [] x y f g e = refl
same-lists [] [] (b ∷ bs) x y f g e = absurd (omega (arith, y.0))
same-lists [] (a ∷ as') b x y f g e = absurd (omega (arith, x.0))
same-lists (p ∷ ps) [] b x y f g e = absurd (omega (arith, x.0))
same-lists (p ∷ ps) (a ∷ as') [] x y f g e = absurd (omega (arith, y.0))
same-lists (p ∷ ps) (a ∷ as') (b ∷ bs) x y f g e =
    let n : ℕ = length p + 1 in
    let ta : length (tests (contains_place a) 0 n) ≡ n = length-tests (contains_place a) 0 n in
    let tb : length (tests (contains_place b) 0 n) ≡ n = length-tests (contains_place b) 0 n in
    let heads : tests (contains_place a) 0 n ≡ tests (contains_place b) 0 n =
    sym (take_at (tests (contains_place a) 0 n) (marks_from ps as') n ta) ∙ (ap (λ v. take n v) e ∙ take_at (tests (contains_place b) 0 n) (marks_from ps bs) n tb) in
    let tails : marks_from ps as' ≡ marks_from ps bs =
    sym (drop_at (tests (contains_place a) 0 n) (marks_from ps as') n ta) ∙ (ap (λ v. drop n v) e ∙ drop_at (tests (contains_place b) 0 n) (marks_from ps bs) n tb) in
    let xr = and_parts _ _ x.1 in
    let yr = and_parts _ _ y.1 in
    let fr = and_parts _ _ f in
    let gr = and_parts _ _ g in
    rw (same-list (length p) a b xr.0 yr.0 fr.0 gr.0 heads, same-lists ps as' bs (omega (arith, x.0), xr.1) (omega (arith, y.0), yr.1) fr.1 gr.1 tails) refl

-- the lists of a text and a step have one rising list per pattern, whose places fit
fit-rising : (n : ℕ) (f : ℕ → Bool) (i k : ℕ) → i + k ≡ n + 1 → list_all (λ j. nat_le j n) (passing_numbers f i k) ≡ true
fit-rising n f i zero e = refl
fit-rising n f i (suc k) e =
    elim (f i) as (λ b. list_all (λ j. nat_le j n) (cond b (i ∷ passing_numbers f (i + 1) k) (passing_numbers f (i + 1) k)) ≡ true) [
      | true ↦ grind (arith, nat_tests, fit-rising n f (i + 1) k (omega arith))
      | false ↦ fit-rising n f (i + 1) k (omega arith)
    ]

pub fit-lists_of : (ps : List (List Piece)) (t : List ℕ) → places_fit ps (lists_of ps t) ≡ true
fit-lists_of [] t = refl
fit-lists_of (p ∷ ps) t = and_from _ _ (fit-rising (length p) (λ i. accepts (take i p) t) 0 (length p + 1) (omega arith)) (fit-lists_of ps t)

fit-steps : (ps : List (List Piece)) (lists : List (List ℕ)) (c : ℕ) → places_fit ps (step_lists ps lists c) ≡ true
fit-steps [] lists c = refl
fit-steps (p ∷ ps) [] c = refl
fit-steps (p ∷ ps) (l ∷ ls) c = and_from _ _ (fit-rising (length p) (reaches p (contains_place l) c) 0 (length p + 1) (omega arith)) (fit-steps ps ls c)

shaped-steps : (ps : List (List Piece)) (lists : List (List ℕ)) (c : ℕ) → length lists ≡ length ps → IsShaped ps (step_lists ps lists c)
shaped-steps [] lists c n = (refl, refl)
shaped-steps (p ∷ ps) [] c n = absurd (omega arith)
shaped-steps (p ∷ ps) (l ∷ ls) c n =
    let rest = shaped-steps ps ls c (omega arith) in
    (ap suc rest.0, and_from _ _ (from-rising (reaches p (contains_place l) c) 0 (length p + 1)) rest.1)

module _ (w : Wants) (k : Machine) (closed : List (List (List ℕ))) (fitting others : List (List ℕ)) (range : InRange (length w.patterns) w.clauses) (machine : IsMachine w.patterns k)
    (shaped : All (IsShaped w.patterns) closed) (are : AreIndexed w.patterns closed fitting others) where
  shape-of : (lists : List (List ℕ)) → Contains closed lists → IsShaped w.patterns lists
  shape-of lists inside = All-contains (IsShaped w.patterns) closed lists shaped inside

  size-of : (lists : List (List ℕ)) → IsShaped w.patterns lists → length (marks_from w.patterns lists) ≡ mark_count w.patterns
  size-of lists shape = length-marks_from w.patterns lists shape.0

  marks-of : (found : List (List ℕ)) → ((x : List ℕ) → Contains found x → HasStateOf w.patterns closed x) → All (IsOfMarks w.patterns) found
  marks-of found to i d h =
      let s = to (get_or found i d) (Contains-get_or found i d h) in
      (marks_from w.patterns s.0, size-of s.0 (shape-of s.0 s.1), sym s.2)

  fitting-state : (x : List ℕ) → Contains fitting x → HasStateOf w.patterns closed x
  fitting-state x h = let s = (are.fit x).0 h in (s.0, s.1, s.3)

  pub fitting-marks : All (IsOfMarks w.patterns) fitting
  fitting-marks = marks-of fitting fitting-state

  pub other-marks : All (IsOfMarks w.patterns) others
  other-marks = marks-of others are.other

  -- the index has the words of a list that fits exactly where the set has the list
  to-index : (lists : List (List ℕ)) (x : List ℕ) → places_fit w.patterns lists ≡ true → words_from w.patterns lists ≡ x → Contains closed lists → Contains fitting x
  to-index lists x fit e inside = (are.fit x).1 (lists, inside, fit, e)

  from-index : (lists : List (List ℕ)) (x : List ℕ) → IsShaped w.patterns lists → places_fit w.patterns lists ≡ true → words_from w.patterns lists ≡ x → Contains fitting x → Contains closed lists
  from-index lists x shape fit e inside =
      let s = (are.fit x).0 inside in
      let own = shape-of s.0 s.1 in
      let same : s.0 ≡ lists = same-lists w.patterns s.0 lists own shape s.2 fit (pack-same _ _ (size-of s.0 own ∙ sym (size-of lists shape)) (s.3 ∙ sym e)) in
      subst (λ (y : List (List ℕ)). Contains closed y) same s.1

  pub closed-if : Contains fitting (all_words w.patterns []) → HavePassed w k fitting fitting → HavePassed w k fitting others → IsClosedUnder w closed
  closed-if start first second =
      let pass : (lists : List (List ℕ)) → Contains closed lists → PassesBy w k fitting (marks_from w.patterns lists) =
      λ lists inside. elim (are.each lists inside) [
        | inl c ↦ first (marks_from w.patterns lists) (size-of lists (shape-of lists inside)) c
        | inr c ↦ second (marks_from w.patterns lists) (size-of lists (shape-of lists inside)) c
      ] in
      record {
        shaped = shaped;
        starts = from-index (lists_of w.patterns []) _ (shaped-lists w.patterns []) (fit-lists_of w.patterns []) (ap pack (sym (all_marks-from w.patterns []))) start;
        steps = λ lists c inside r.
            let shape = shape-of lists inside in
            let scalar : IsScalar c = elim r [ inl n ↦ n.0 | inr f ↦ f.scalar ] in
            let s = stands _ _ _ machine.alphabet c scalar in
            subst (λ (x : List (List ℕ)). Contains closed x) (sym (s.3 lists))
            (from-index (step_lists w.patterns lists s.0) _ (shaped-steps w.patterns lists s.0 shape.0) (fit-steps w.patterns lists s.0)
            (ap pack (sym (reached-from w.patterns lists s.0 shape.0))) ((pass lists inside).steps s.0 s.1 s.2));
        none_meets = λ lists inside. sym (meet-lists w.patterns _ w.clauses lists machine.ends range (shape-of lists inside).0) ∙ (pass lists inside).none;
      }

  module _ (is : IsClosedUnder w closed) where
    pub start-if : Contains fitting (all_words w.patterns [])
    start-if = to-index (lists_of w.patterns []) _ (fit-lists_of w.patterns []) (ap pack (sym (all_marks-from w.patterns []))) is.starts

    passes-if : (lists : List (List ℕ)) → Contains closed lists → PassesBy w k fitting (marks_from w.patterns lists)
    passes-if lists inside =
        let shape = shape-of lists inside in
        record {
          none = meet-lists w.patterns _ w.clauses lists machine.ends range shape.0 ∙ is.none_meets lists inside;
          steps = λ x s known.
              let r = representative w.patterns x s in
              to-index (step_lists w.patterns lists x) _ (fit-steps w.patterns lists x) (ap pack (sym (reached-from w.patterns lists x shape.0)))
              (subst (λ (y : List (List ℕ)). Contains closed y) (sym (r.2 lists)) (is.steps lists r.0 inside r.1));
        }

    passed-if : (found : List (List ℕ)) → ((x : List ℕ) → Contains found x → HasStateOf w.patterns closed x) → HavePassed w k fitting found
    passed-if found to marks size inside =
        let s = to (pack marks) inside in
        subst (PassesBy w k fitting) (pack-same _ _ (size-of s.0 (shape-of s.0 s.1) ∙ sym size) s.2) (passes-if s.0 s.1)

    pub fitting-if : HavePassed w k fitting fitting
    fitting-if = passed-if fitting fitting-state

    pub others-if : HavePassed w k fitting others
    others-if = passed-if others are.other

-- a clause of an answer, in other words
pub answer-ok : {X E : Type 0} (P Q : X → Type 0) (r : Result X E) → ((x : X) → P x → Q x) → IfOk r P → IfOk r Q
answer-ok P Q (Ok x) to h = to x h
answer-ok P Q (Err e) to h = h
