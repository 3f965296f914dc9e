-- Answers that are left out, tried and given back.
use Rattle.std.proofs.Common.{◌≡◌, ◌≢◌, ℕ, ◌<◌, ◌≤◌, ◌+◌, ◌-◌, ◌==◌, List, [], ◌∷◌, ◌++◌, length, take, drop, get_or, zero, suc, Bool, true, false, Option, Some, None, is_some, slice_get, ◌⊎◌, inl, inr, refl, sym, ap, subst, ◌∙◌, arith, if◌then◌else◌}
use Rattle.std.proofs.Common.{Result, Ok, Err, append-nil}
use Rattle.std.specs.Prelude.{IfOk, OnOk}
use Rattle.std.proofs.lemmas.List.{drop_more, ext_get_or, take_more}
use Rattle.std.proofs.lemmas.Option.{get_or_from_slice_get, slice_get-get_or}
use Rattle.formula_tree.specs.Answers.{Answers, IsDistinct, answer_of}
use Rattle.formula_tree.specs.Trees.{Tree, tree_of}
use Rattle.formula_tree.specs.declared.formula.Formula.{Formula}
use Rattle.formula_tree.proofs.Laws.{cases_eq}
use Rattle.tree_values.specs.Cuts.{IsLeastCut}
use Rattle.tree_values.specs.Leaving.{AreKeptFor, IsKeptFor, IsLeftOut, IsNoGiven, still_answered, with_answer, without_answer}
use Rattle.tree_values.specs.Models.{Answered, IsSet, answer_at, answer_in, answered_tree}
use Rattle.tree_values.specs.Omitting.{path_without}
use Rattle.tree_values.specs.declared.cut.Sides.{Sides}
use Rattle.tree_values.proofs.Lists.{number-other, number-same}
use Rattle.formula_tree.specs.Looks.{look_of_tree}
use Rattle.formula_tree.specs.declared.looks.Look.{Look}
use Rattle.tree_values.proofs.Staying.{given-alike, given-from, given-more, given-on, tree-alike, with-other, with-same, without-fewer, without-other, without-same}

-- ---- what is kept, as a whole

pub cases-answer : (o : Option Bool) → (o ≡ None) ⊎ ((b : Bool) × (o ≡ Some b))
cases-answer None = inl refl
cases-answer (Some b) = inr (b, refl)

record-alike : (old new : Answered) → new.formula ≡ old.formula → new.answers ≡ old.answers → new ≡ old
record-alike old new formula answers = λ i. record { formula = formula i; answers = answers i }

pub same-answered : (old new : Answered) → new.formula ≡ old.formula → length new.answers ≡ length old.answers → ((n : ℕ) → answer_in new n ≡ answer_in old n) → new ≡ old
same-answered old new formula long same =
    let answers : new.answers ≡ old.answers = ext_get_or None new.answers old.answers long (λ i lt. same i) in
    record-alike old new formula answers

pub none-some : (b : Bool) → ◌≡◌ {A = Option Bool} None (Some b) → ⊥
none-some b e = cc

pub same-answer : (a b : Bool) → ◌≡◌ {A = Option Bool} (Some a) (Some b) → a ≡ b
same-answer a b e = cc

pub none-of : (o : Option Bool) → ((b : Bool) → o ≡ Some b → ⊥) → o ≡ None
none-of None h = refl
none-of (Some b) h = absurd (h b refl)

-- an answer and its taking back leave what was there
pub set-back : (old mid new : Answered) (test : ℕ) (b : Bool) → answer_in old test ≡ None → IsSet old mid test (Some b) → IsSet mid new test None → new ≡ old
set-back old mid new test b free there gone =
    same-answered old new (gone.formula ∙ there.formula) (gone.tests ∙ there.tests) (λ n.
    elim (cases_eq n test) [
      | inl e ↦ ap (answer_in new) e ∙ gone.at ∙ sym free ∙ ap (answer_in old) (sym e)
      | inr ne ↦ gone.others n ne ∙ there.others n ne
    ])

-- what is answered so is answered as the function with one more answer
pub set-with : (old mid : Answered) (test : ℕ) (b : Bool) → IsSet old mid test (Some b) → (n : ℕ) → answer_in mid n ≡ with_answer (answer_at old.answers) test b n
set-with old mid test b there n =
    elim (cases_eq n test) [
      | inl e ↦ ap (answer_in mid) e ∙ there.at ∙ sym (with-same (answer_at old.answers) test b n e)
      | inr ne ↦ there.others n ne ∙ sym (with-other (answer_at old.answers) test b n ne)
    ]

-- ---- trying one

pub out-then : (old mid new : Answered) (needed : Answers) (test : ℕ) (sides : Sides) → IsLeftOut old mid needed test sides → IsLeftOut mid new needed test sides → IsLeftOut old new needed test sides
out-then old mid new needed test sides a b = record {
  formula = b.formula ∙ a.formula;
  tests = b.tests ∙ a.tests;
  fewer = λ n c is. a.fewer n c (b.fewer n c is);
  needed_stay = λ n c need is. b.needed_stay n c need (a.needed_stay n c need is);
  still = subst (λ (f : Formula). IsNoGiven (tree_of f) (answer_at new.answers) test sides) a.formula b.still;
}

module _ (old mid : Answered) (needed : Answers) (test : ℕ) (sides : Sides) (tried : ℕ) (answer : Bool) (there : answer_in old tried ≡ Some answer) (unneeded : (b : Bool) → answer_of needed tried ≡ Some b → ⊥) (gone : IsSet old mid tried None) where
  module _ (new : Answered) (back : IsSet mid new tried (Some answer)) where
    as-before : (n : ℕ) → answer_in new n ≡ answer_in old n
    as-before n =
        elim (cases_eq n tried) [
          | inl e ↦ ap (answer_in new) e ∙ back.at ∙ sym there ∙ ap (answer_in old) (sym e)
          | inr ne ↦ back.others n ne ∙ gone.others n ne
        ]

    -- and where it isn't, the answer is given again
    pub out-back : IsNoGiven (answered_tree old) (answer_at old.answers) test sides → IsLeftOut old new needed test sides
    out-back given = record {
      formula = back.formula ∙ gone.formula;
      tests = back.tests ∙ gone.tests;
      fewer = λ n b is. sym (as-before n) ∙ is;
      needed_stay = λ n b need is. as-before n ∙ is;
      still = given-alike (answered_tree old) (answer_at old.answers) (answer_at new.answers) test sides (λ n. sym (as-before n)) given;
    }

    without-mid : (n : ℕ) → without_answer (answer_at new.answers) tried n ≡ answer_in mid n
    without-mid n =
        elim (cases_eq n tried) [
          | inl e ↦ without-same (answer_at new.answers) tried n e ∙ sym gone.at ∙ ap (answer_in mid) (sym e)
          | inr ne ↦ without-other (answer_at new.answers) tried n ne ∙ back.others n ne
        ]

    pub kept-back : ¬ IsNoGiven (answered_tree mid) (answer_at mid.answers) test sides → IsKeptFor new needed test sides tried
    kept-back not b is =
        inr (λ given.
        not
        (given-alike (answered_tree mid) (without_answer (answer_at new.answers) tried) (answer_at mid.answers) test sides without-mid
        (subst (λ (f : Formula). IsNoGiven (tree_of f) (without_answer (answer_at new.answers) tried) test sides) back.formula given)))

-- ---- trying all

pub kept-next : (mid new : Answered) (needed rest : Answers) (test : ℕ) (sides : Sides) (p : ℕ × Bool) → IsLeftOut mid new needed test sides → AreKeptFor mid needed test sides rest → IsKeptFor new needed test sides p.0 →
    AreKeptFor new needed test sides (p ∷ rest)
kept-next mid new needed rest test sides p out before own n c is b there =
    elim (cases_eq n p.0) [
      | inl e ↦ subst (λ (k : ℕ). IsKeptFor new needed test sides k) (sym e) own b there
      | inr ne ↦
          let later : answer_of rest n ≡ Some c = rw (number-other p.0 n (λ e. ne (sym e))) at is in
          elim (before n c later b (out.fewer n b there)) [
            | inl need ↦ inl need
            | inr not ↦
                inr (λ given.
                not
                (given-more (answered_tree mid) (without_answer (answer_at new.answers) n) (without_answer (answer_at mid.answers) n) test sides (without-fewer (answer_at new.answers) (answer_at mid.answers) n out.fewer)
                (subst (λ (f : Formula). IsNoGiven (tree_of f) (without_answer (answer_at new.answers) n) test sides) out.formula given)))
          ]
    ]

pub kept-step : (mid new : Answered) (needed path : Answers) (test : ℕ) (sides : Sides) (k : ℕ) (p : ℕ × Bool) → slice_get path k ≡ Some p → k < length path → IsLeftOut mid new needed test sides →
    AreKeptFor mid needed test sides (drop (k + 1) path) → IsKeptFor new needed test sides p.0 → AreKeptFor new needed test sides (drop k path)
kept-step mid new needed path test sides k p at lt out before own =
    subst (λ (ps : Answers). AreKeptFor new needed test sides ps) (sym (drop_more path k p lt ∙ ap (λ (q : ℕ × Bool). q ∷ drop (k + 1) path) (get_or_from_slice_get path k p p at)))
    (kept-next mid new needed (drop (k + 1) path) test sides p out before own)

pub kept-before : (mid new : Answered) (needed path items : Answers) (test : ℕ) (sides : Sides) (left : ℕ) → items ≡ path → 0 < left → left ≤ length path → IsLeftOut mid new needed test sides →
    AreKeptFor mid needed test sides (drop left path) → IsKeptFor new needed test sides (get_or items (left - 1) (0, false)).0 → AreKeptFor new needed test sides (drop (left - 1) path)
kept-before mid new needed path items test sides left e more within out before own =
    let lt : left - 1 < length path = omega arith in
    let next : left ≡ left - 1 + 1 = omega arith in
    kept-step mid new needed path test sides (left - 1) (get_or path (left - 1) (0, false)) (slice_get-get_or path (left - 1) (0, false) lt) lt out
    (subst (λ (k : ℕ). AreKeptFor mid needed test sides (drop k path)) next before)
    (subst (λ (ps : Answers). IsKeptFor new needed test sides (get_or ps (left - 1) (0, false)).0) e own)

pub past : (answers : List (Option Bool)) (n : ℕ) (b : Bool) → answer_at answers n ≡ Some b → n < length answers
past [] n b h = absurd (cc)
past (x ∷ xs) zero b h = omega arith
past (x ∷ xs) (suc n) b h = omega (arith, past xs n b h)

-- ---- the answers that are left

still-none : (answers : List (Option Bool)) (path : Answers) (n : ℕ) → answer_at answers n ≡ None → answer_of (still_answered answers path) n ≡ None
still-none answers [] n free = refl
still-none answers (p ∷ path) n free =
    elim (cases-answer (answer_at answers p.0)) [
      | inl e ↦ rw e (still-none answers path n free)
      | inr (b, e) ↦
          let other : p.0 ≢ n = λ same. none-some b (sym free ∙ ap (answer_at answers) (sym same) ∙ e) in
          rw (e, number-other p.0 n other) (still-none answers path n free)
    ]

still-is : (answers : List (Option Bool)) (path : Answers) (n : ℕ) (b : Bool) → answer_at answers n ≡ Some b → answer_of path n ≡ Some b → answer_of (still_answered answers path) n ≡ Some b
still-is answers [] n b there is = absurd (none-some b is)
still-is answers (p ∷ path) n b there is =
    elim (cases_eq p.0 n) [
      | inl e ↦
          let here : answer_at answers p.0 ≡ Some b = ap (answer_at answers) e ∙ there in
          let own : (p.0 == n) ≡ true = subst (λ (k : ℕ). (p.0 == k) ≡ true) e (number-same p.0) in
          let own_answer : ◌≡◌ {A = Option Bool} (Some p.1) (Some b) = rw own at is in
          rw (here, own) own_answer
      | inr ne ↦
          let later : answer_of path n ≡ Some b = rw (number-other p.0 n ne) at is in
          elim (cases-answer (answer_at answers p.0)) [
            | inl e ↦ rw e (still-is answers path n b there later)
            | inr (c, e) ↦ rw (e, number-other p.0 n ne) (still-is answers path n b there later)
          ]
    ]

-- answers that are all the path's
pub still-same : (answers : List (Option Bool)) (path : Answers) → ((n : ℕ) (b : Bool) → answer_at answers n ≡ Some b → answer_of path n ≡ Some b) → (n : ℕ) → answer_at answers n ≡ answer_of (still_answered answers path) n
still-same answers path within n =
    elim (cases-answer (answer_at answers n)) [
      | inl e ↦ e ∙ sym (still-none answers path n e)
      | inr (b, e) ↦ e ∙ sym (still-is answers path n b e (within n b e))
    ]

pub left-some : {X E : Type 0} (r : Result X E) (answers : List (Option Bool)) (old new : Answers) (test : ℕ) (answer b : Bool) → answer_at answers test ≡ Some b → OnOk r (new ≡ old ++ (test, answer) ∷ []) →
    OnOk r (new ≡ old ++ still_answered answers ((test, answer) ∷ []))
left-some (Ok x) answers old new test answer b there is = rw there is
left-some (Err e) answers old new test answer b there is = tt

pub left-none : (answers : List (Option Bool)) (old : Answers) (test : ℕ) (answer : Bool) → answer_at answers test ≡ None → old ≡ old ++ still_answered answers ((test, answer) ∷ [])
left-none answers old test answer free = rw free (sym (append-nil old))

pub still-append : (answers : List (Option Bool)) (ps qs : Answers) → still_answered answers (ps ++ qs) ≡ still_answered answers ps ++ still_answered answers qs
still-append answers [] qs = refl
still-append answers (p ∷ ps) qs =
    elim (cases-answer (answer_at answers p.0)) [
      | inl e ↦ rw e (still-append answers ps qs)
      | inr (c, e) ↦ rw e (ap (λ (xs : Answers). p ∷ xs) (still-append answers ps qs))
    ]

-- one item more
pub still-next : (answers : List (Option Bool)) (ps : Answers) (k : ℕ) (left new : Answers) (p : ℕ × Bool) → k < length ps → get_or ps k (0, false) ≡ p → left ≡ still_answered answers (take k ps) → new ≡ left ++ still_answered answers (p ∷ []) →
    new ≡ still_answered answers (take (k + 1) ps)
still-next answers ps k left new p lt at was is =
    is ∙ ap (λ (xs : Answers). xs ++ still_answered answers (p ∷ [])) was ∙ sym (still-append answers (take k ps) (p ∷ [])) ∙
    ap (still_answered answers) (sym (take_more ps k (0, false) lt ∙ ap (λ (q : ℕ × Bool). take k ps ++ q ∷ []) at))

still-free : (answers : List (Option Bool)) (ps : Answers) (n : ℕ) → answer_of ps n ≡ None → answer_of (still_answered answers ps) n ≡ None
still-free answers [] n free = refl
still-free answers (p ∷ ps) n free =
    elim (cases_eq p.0 n) [
      | inl e ↦
          let own : (p.0 == n) ≡ true = subst (λ (k : ℕ). (p.0 == k) ≡ true) e (number-same p.0) in
          let bad : ◌≡◌ {A = Option Bool} (Some p.1) None = rw own at free in
          absurd (none-some p.1 (sym bad))
      | inr ne ↦
          let later : answer_of ps n ≡ None = rw (number-other p.0 n ne) at free in
          elim (cases-answer (answer_at answers p.0)) [
            | inl e ↦ rw e (still-free answers ps n later)
            | inr (c, e) ↦ rw (e, number-other p.0 n ne) (still-free answers ps n later)
          ]
    ]

-- an item of a path is an answer of it
pub item-answered : (ps : Answers) (k : ℕ) (p : ℕ × Bool) → slice_get ps k ≡ Some p → (b : Bool) × (answer_of ps p.0 ≡ Some b)
item-answered [] k p at = absurd (cc)
item-answered (q ∷ ps) zero p at =
    let same : q ≡ p = cc in
    (q.1, subst (λ (r : ℕ × Bool). answer_of (q ∷ ps) r.0 ≡ Some q.1) same (rw (number-same q.0) refl))
item-answered (q ∷ ps) (suc k) p at =
    let (b, is) = item-answered ps k p at in
    elim (cases_eq q.0 p.0) [
      | inl e ↦ (q.1, rw (subst (λ (m : ℕ). (q.0 == m) ≡ true) e (number-same q.0)) refl)
      | inr ne ↦ (b, rw (number-other q.0 p.0 ne) is)
    ]

-- and no item before it answers its test
item-first : (ps : Answers) (k : ℕ) (p : ℕ × Bool) → IsDistinct ps → slice_get ps k ≡ Some p → answer_of (take k ps) p.0 ≡ None
item-first [] k p distinct at = absurd (cc)
item-first (q ∷ ps) zero p distinct at = refl
item-first (q ∷ ps) (suc k) p distinct at =
    let (b, is) = item-answered ps k p at in
    let other : q.0 ≢ p.0 = λ e. none-some b (sym distinct.0 ∙ ap (answer_of ps) e ∙ is) in
    rw (number-other q.0 p.0 other) (item-first ps k p distinct.1 at)

-- the cut that was made
pub cut-ok : {E : Type 0} (r : Result Answers E) (tree : Tree) (path needed : Answers) (test : ℕ) (sides : Sides) (answers : Answers) → IsLeastCut tree path needed test sides answers → IfOk r (λ a. a ≡ answers) →
    IfOk r (IsLeastCut tree path needed test sides)
cut-ok (Ok a) tree path needed test sides answers cut is = subst (IsLeastCut tree path needed test sides) (sym is) cut
cut-ok (Err e) tree path needed test sides answers cut is = tt

-- the same of a formula's truth under an answer
pub seen-with : (old mid : Answered) (test : ℕ) (b : Bool) (s : Look) → IsSet old mid test (Some b) → s ≡ look_of_tree (answer_at mid.answers) (answered_tree mid) → s ≡ look_of_tree (with_answer (answer_at old.answers) test b) (answered_tree old)
seen-with old mid test b s there is =
    is ∙ tree-alike (answer_at mid.answers) (with_answer (answer_at old.answers) test b) (set-with old mid test b there) (answered_tree mid) ∙
    ap (λ (f : Formula). look_of_tree (with_answer (answer_at old.answers) test b) (tree_of f)) there.formula

pub still-push : (answers : List (Option Bool)) (ps : Answers) (k : ℕ) (p : ℕ × Bool) → IsDistinct ps → slice_get ps k ≡ Some p → answer_of (still_answered answers (take k ps)) p.0 ≡ None
still-push answers ps k p distinct at = still-free answers (take k ps) p.0 (item-first ps k p distinct at)

-- ---- the cut as a whole

omitted-none : (ps : Answers) (n : ℕ) → answer_of (path_without ps n) n ≡ None
omitted-none [] n = refl
omitted-none (p ∷ ps) n =
    elim (cases_eq p.0 n) [
      | inl e ↦ rw (subst (λ (k : ℕ). (p.0 == k) ≡ true) e (number-same p.0)) (omitted-none ps n)
      | inr ne ↦ rw (number-other p.0 n ne, number-other p.0 n ne) (omitted-none ps n)
    ]

omitted-other : (ps : Answers) (n k : ℕ) → k ≢ n → answer_of (path_without ps n) k ≡ answer_of ps k
omitted-other [] n k ne = refl
omitted-other (p ∷ ps) n k ne =
    elim (cases_eq p.0 n) [
      | inl e ↦
          let gone : (p.0 == n) ≡ true = subst (λ (m : ℕ). (p.0 == m) ≡ true) e (number-same p.0) in
          let other : (p.0 == k) ≡ false = number-other p.0 k (λ same. ne (sym same ∙ e)) in
          rw (gone, other) (omitted-other ps n k ne)
      | inr stays ↦
          rw (number-other p.0 n stays) (ap (λ (o : Option Bool). if p.0 == k then Some p.1 else o) (omitted-other ps n k ne))
    ]

without-omitted : (f : ℕ → Option Bool) (ps : Answers) (n : ℕ) → ((k : ℕ) → f k ≡ answer_of ps k) → (k : ℕ) → without_answer f n k ≡ answer_of (path_without ps n) k
without-omitted f ps n same k =
    elim (cases_eq k n) [
      | inl e ↦ without-same f n k e ∙ sym (omitted-none ps n) ∙ ap (answer_of (path_without ps n)) (sym e)
      | inr ne ↦ without-other f n k ne ∙ same k ∙ sym (omitted-other ps n k ne)
    ]

some-of : (o : Option Bool) → is_some o ≡ true → (b : Bool) × (o ≡ Some b)
some-of None e = absurd (cc)
some-of (Some b) e = (b, refl)

module _ (old now : Answered) (path needed : Answers) (test : ℕ) (sides : Sides) (begun : (n : ℕ) (b : Bool) → answer_in old n ≡ Some b → answer_of path n ≡ Some b) (there : (n : ℕ) (b : Bool) → answer_of needed n ≡ Some b → answer_in old n ≡ Some b) (free : answer_of path test ≡ None) (out : IsLeftOut old now needed test sides) (tried : AreKeptFor now needed test sides path) where
  pub within : (n : ℕ) (b : Bool) → answer_in now n ≡ Some b → answer_of path n ≡ Some b
  within n b is = begun n b (out.fewer n b is)

  same : (n : ℕ) → answer_in now n ≡ answer_of (still_answered now.answers path) n
  same = still-same now.answers path within

  left-free : answer_of (still_answered now.answers path) test ≡ None
  left-free = sym (same test) ∙ none-of (answer_in now test) (λ b is. none-some b (sym free ∙ within test b is))

  -- leaving one more out doesn't answer the test
  lost : (n : ℕ) (c : Bool) → answer_of (path_without (still_answered now.answers path) n) test ≡ Some c → ⊥
  lost n c given =
      elim (cases_eq test n) [
        | inl e ↦ none-some c (sym (omitted-none (still_answered now.answers path) n) ∙ ap (answer_of (path_without (still_answered now.answers path) n)) (sym e) ∙ given)
        | inr ne ↦ none-some c (sym left-free ∙ sym (omitted-other (still_answered now.answers path) n test ne) ∙ given)
      ]

  pub is-cut : IsLeastCut (answered_tree old) path needed test sides (still_answered now.answers path)
  is-cut = record {
    needed_there = λ n b is. sym (same n) ∙ out.needed_stay n b is (there n b is);
    there = λ n b is. within n b (same n ∙ is);
    still = given-on (answered_tree old) (answer_at now.answers) (still_answered now.answers path) test sides same left-free out.still;
    least = λ n b is.
        let here : answer_in now n ≡ Some b = same n ∙ is in
        elim (tried n b (within n b here) b here) [
          | inl need ↦
              let (c, given) = some-of (answer_of needed n) need in
              let also : answer_in now n ≡ Some c = out.needed_stay n c given (there n c given) in
              let equal : c ≡ b = same-answer c b (sym also ∙ here) in
              inl (given ∙ ap (λ (x : Bool). Some x) equal)
          | inr not ↦
              let fewer = without-omitted (answer_at now.answers) (still_answered now.answers path) n same in
              let open_test : answer_of (path_without (still_answered now.answers path) n) test ≡ None = none-of (answer_of (path_without (still_answered now.answers path) n) test) (λ c given. lost n c given) in
              inr (λ on.
              not
              (subst (λ (f : Formula). IsNoGiven (tree_of f) (without_answer (answer_at now.answers) n) test sides) (sym out.formula)
              (given-from (answered_tree old) (without_answer (answer_at now.answers) n) (path_without (still_answered now.answers path) n) test sides fewer open_test on)))
        ];
  }
