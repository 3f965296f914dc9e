-- Lists that are watched along a path, when an answer joins it.
use Rattle.std.proofs.Common.{◌≡◌, ◌≢◌, ◌⊎◌, ℕ, ◌+◌, ◌<◌, ◌≤◌, List, [], ◌∷◌, length, take, Bool, true, false, Option, Some, None, refl, sym, ◌∙◌, ap, subst, inl, inr, arith, length-append}
use Rattle.std.proofs.lemmas.List.{take-append-drop, take-append-le, take_all}
use Rattle.std.proofs.Math.Seq.{take-length}
use Rattle.std.proofs.lemmas.Bool.{cases_lt}
use Rattle.std.specs.Prelude.{Contains, slice_get, drop}
use Rattle.formula_tree.specs.Answers.{Answers, Contained, answer_of}
use Rattle.formula_tree.proofs.Laws.{answer_of-besides, answer_of-last, answer_of-more, cases_eq}
use Rattle.nogoods.specs.Tracking.{AreWatched, IsHitOf, IsLacking, IsWatch, IsWatched, bucket_of, watchers_in}
use Rattle.nogoods.specs.Hits.{IsHit, NoHit, answers_at}
use Rattle.nogoods.specs.Turning.{KeepsWatchers, StayAsHits, TurnsOrStays}
use Rattle.nogoods.specs.Joining.{FindsHit, IsPut, Joins, WatchesOn}

-- lists stay watched where buckets keep their numbers
pub watched-kept : (lists : List Answers) (path : Answers) (old new : List (List ℕ)) → KeepsWatchers old new → WatchesOn lists path path old new
watched-kept lists path old new keeps watched i lt =
    elim (watched i lt) [
      | inl none ↦ inl none
      | inr w ↦ inr (record { test = w.test; answer = w.answer; is = w.is; there = keeps _ i w.there })
    ]

-- a bucket is of one answer
pub bucket-tests : (t n : ℕ) (a b : Bool) → bucket_of t a ≡ bucket_of n b → t ≡ n
bucket-tests t n true true e = omega (arith, e)
bucket-tests t n true false e = omega (arith, e)
bucket-tests t n false true e = omega (arith, e)
bucket-tests t n false false e = omega (arith, e)

pub bucket-answers : (t n : ℕ) (a b : Bool) → bucket_of t a ≡ bucket_of n b → a ≡ b
bucket-answers t n true true e = refl
bucket-answers t n true false e = absurd (omega (arith, e))
bucket-answers t n false true e = absurd (omega (arith, e))
bucket-answers t n false false e = refl

-- a beginning of a path answers no more than the path
pub begun : (path : Answers) (k n : ℕ) (b : Bool) → answer_of (take k path) n ≡ Some b → answer_of path n ≡ Some b
begun path k n b e = subst (λ (p : Answers). answer_of p n ≡ Some b) (take-append-drop k path) (answer_of-more (take k path) (drop k path) n b e)

-- a beginning of the longer path is one of the shorter, or all of it
pub begins : (before path : Answers) (test : ℕ) (answer : Bool) (k : ℕ) → Joins before path test answer → (take k path ≡ take k before) ⊎ (take k path ≡ path)
begins before path test answer k joins =
    elim (cases_lt k (length before + 1)) [
      | inl short ↦ inl (ap (take k) joins.is ∙ take-append-le k before ((test, answer) ∷ []) (omega (arith, short)))
      | inr long ↦
          let count : length path ≡ length before + 1 = ap length joins.is ∙ length-append before ((test, answer) ∷ []) in
          inr (take_all k path (omega (arith, long, count)))
    ]

-- the new answer, and the others
pub joined-here : (before path : Answers) (test : ℕ) (answer : Bool) → Joins before path test answer → answer_of path test ≡ Some answer
joined-here before path test answer joins = subst (λ (p : Answers). answer_of p test ≡ Some answer) (sym joins.is) (answer_of-last before test answer joins.new)

pub joined-other : (before path : Answers) (test : ℕ) (answer : Bool) (n : ℕ) (b : Bool) → Joins before path test answer → bucket_of n b ≢ bucket_of test answer → answer_of path n ≡ Some b → answer_of before n ≡ Some b
joined-other before path test answer n b joins other given =
    elim (cases_eq n test) [
      | inl e ↦
          let same : Some b ≡ Some answer = sym given ∙ ap (answer_of path) e ∙ joined-here before path test answer joins in
          let bs : b ≡ answer = cc in
          absurd (other (ap (λ (m : ℕ). bucket_of m b) e ∙ ap (bucket_of test) bs))
      | inr ne ↦ sym (answer_of-besides before test answer n ne) ∙ subst (λ (p : Answers). answer_of p n ≡ Some b) joins.is given
    ]

pub contained-on : (answers before path : Answers) (test : ℕ) (answer : Bool) → Joins before path test answer → Contained answers before → Contained answers path
contained-on answers before path test answer joins inside n b own = subst (λ (p : Answers). answer_of p n ≡ Some b) (sym joins.is) (answer_of-more before ((test, answer) ∷ []) n b (inside n b own))

-- a watch at another answer stays
pub watch-other : (answers before path : Answers) (test : ℕ) (answer : Bool) (n : ℕ) (b : Bool) → Joins before path test answer → bucket_of n b ≢ bucket_of test answer → IsWatch answers before n b → IsWatch answers path n b
watch-other answers before path test answer n b joins other watch = record {
  own = watch.own;
  shows = λ k given. elim (begins before path test answer k joins) [
    | inl e ↦
        let given_before : answer_of (take k before) n ≡ Some b = subst (λ (p : Answers). answer_of p n ≡ Some b) e given in
        subst (Contained answers) (sym e) (watch.shows k given_before)
    | inr e ↦
        let whole : answer_of path n ≡ Some b = subst (λ (p : Answers). answer_of p n ≡ Some b) e given in
        let was : answer_of before n ≡ Some b = joined-other before path test answer n b joins other whole in
        let all : answer_of (take (length before) before) n ≡ Some b = subst (λ (p : Answers). answer_of p n ≡ Some b) (sym (take-length before)) was in
        let inside : Contained answers before = subst (Contained answers) (take-length before) (watch.shows (length before) all) in
        subst (Contained answers) (sym e) (contained-on answers before path test answer joins inside)
  ];
}

-- the new answer is a watch of a list that the path contains
pub watch-stays : (answers before path : Answers) (test : ℕ) (answer : Bool) → Joins before path test answer → answer_of answers test ≡ Some answer → Contained answers path → IsWatch answers path test answer
watch-stays answers before path test answer joins own inside = record {
  own = own;
  shows = λ k given. elim (begins before path test answer k joins) [
    | inl e ↦
        let was : answer_of before test ≡ Some answer = begun before k test answer (subst (λ (p : Answers). answer_of p test ≡ Some answer) e given) in
        let no : None ≡ Some answer = sym joins.new ∙ was in absurd (cc)
    | inr e ↦ subst (Contained answers) (sym e) inside
  ];
}

-- an answer that the path lacks is a watch
pub watch-lacking : (answers path : Answers) (n : ℕ) (b : Bool) → IsLacking answers path (n, b) → IsWatch answers path n b
watch-lacking answers path n b lacking = record { own = lacking.own; shows = λ k given. absurd (lacking.lacks (begun path k n b given)) }

-- what holds of a number that stands in a bucket after its numbers are put
in-put : (bucket number : ℕ) (numbers : List ℕ) (old new : List (List ℕ)) → IsPut bucket numbers old new → Contains numbers number → Contains (watchers_in old bucket) number → Contains (watchers_in new bucket) number
in-put bucket number numbers old new put stays there =
    let P : List ℕ → Type 0 = λ xs. Contains xs number in
    elim put.here [ inl e ↦ subst P (sym e) stays | inr e ↦ subst P (sym e) there ]

in-others : (bucket other number : ℕ) (numbers : List ℕ) (old new : List (List ℕ)) → IsPut bucket numbers old new → other ≢ bucket → Contains (watchers_in old other) number → Contains (watchers_in new other) number
in-others bucket other number numbers old new put ne there =
    let P : List ℕ → Type 0 = λ xs. Contains xs number in
    subst P (sym (put.others other ne)) there

module _ (lists : List Answers) (before path : Answers) (test : ℕ) (answer : Bool) (joins : Joins before path test answer) (old mid new : List (List ℕ)) (stay : List ℕ)
    (keeps : KeepsWatchers old mid) (turned : (number : ℕ) → Contains (watchers_in old (bucket_of test answer)) number → TurnsOrStays lists path mid stay number) where
  watched-turned : (i : ℕ) → i < length lists → answer_of (answers_at lists i) test ≡ Some answer → Contains (watchers_in old (bucket_of test answer)) i → IsPut (bucket_of test answer) stay mid new → IsWatched new (answers_at lists i) path i
  watched-turned i lt own there put =
      elim (turned i there lt) [
        | inl here ↦ record { test = test; answer = answer; is = watch-stays (answers_at lists i) before path test answer joins own here.0; there = in-put (bucket_of test answer) i stay mid new put here.1 (keeps (bucket_of test answer) i there) }
        | inr t ↦
            let other : bucket_of t.test t.answer ≢ bucket_of test answer = λ e.
            t.lacking.lacks (subst (λ (m : ℕ). answer_of path m ≡ Some t.answer) (sym (bucket-tests t.test test t.answer answer e)) (joined-here before path test answer joins ∙ ap Some (sym (bucket-answers t.test test t.answer answer e)))) in
            record { test = t.test; answer = t.answer; is = watch-lacking (answers_at lists i) path t.test t.answer t.lacking; there = in-others (bucket_of test answer) (bucket_of t.test t.answer) i stay mid new put other t.there }
      ]

  pub watched-join : IsPut (bucket_of test answer) stay mid new → WatchesOn lists before path old new
  watched-join put watched i lt =
      elim (watched i lt) [
        | inl none ↦ inl none
        | inr w ↦ elim (cases_eq (bucket_of w.test w.answer) (bucket_of test answer)) [
          | inl e ↦
              let at : Contains (watchers_in old (bucket_of test answer)) i = subst (λ (m : ℕ). Contains (watchers_in old m) i) e w.there in
              let own : answer_of (answers_at lists i) test ≡ Some answer =
              subst (λ (m : ℕ). answer_of (answers_at lists i) m ≡ Some answer) (bucket-tests w.test test w.answer answer e) (w.is.own ∙ ap Some (bucket-answers w.test test w.answer answer e)) in
              inr (watched-turned i lt own at put)
          | inr ne ↦ inr (record { test = w.test; answer = w.answer; is = watch-other (answers_at lists i) before path test answer w.test w.answer joins ne w.is; there = in-others (bucket_of test answer) (bucket_of w.test w.answer) i stay mid new put ne (keeps (bucket_of w.test w.answer) i w.there) })
        ]
      ]

  -- none that stays, none that the path contains
  none-stays : NoHit lists before → stay ≡ [] → AreWatched lists before old → (i : ℕ) → i < length lists → ¬ IsHit lists path i
  none-stays nohit empty watched i lt hit =
      elim (watched i lt) [
        | inl none ↦ no-hit (λ n b own. absurd (nothing n b (subst (λ (a : Answers). answer_of a n ≡ Some b) none own)))
        | inr w ↦ elim (cases_eq (bucket_of w.test w.answer) (bucket_of test answer)) [
          | inl e ↦
              let at : Contains (watchers_in old (bucket_of test answer)) i = subst (λ (m : ℕ). Contains (watchers_in old m) i) e w.there in
              elim (turned i at lt) [
                | inl here ↦ let none_held : Contains [] i = subst (λ (s : List ℕ). Contains s i) empty here.1 in absurd (omega (arith, none_held.1))
                | inr t ↦ t.lacking.lacks (hit t.test t.answer t.lacking.own)
              ]
          | inr ne ↦
              let was : answer_of before w.test ≡ Some w.answer = joined-other before path test answer w.test w.answer joins ne (hit w.test w.answer w.is.own) in
              let all : answer_of (take (length before) before) w.test ≡ Some w.answer = subst (λ (p : Answers). answer_of p w.test ≡ Some w.answer) (sym (take-length before)) was in
              no-hit (subst (Contained (answers_at lists i)) (take-length before) (w.is.shows (length before) all))
        ]
      ]
    where
      no-hit : IsHit lists before i → ⊥
      no-hit inside = let le : length lists ≤ i = nohit i lt inside in absurd (omega (arith, lt, le))

      nothing : (n : ℕ) (b : Bool) → answer_of [] n ≡ Some b → ⊥
      nothing n b e = absurd (cc)

  pub finds-hit : StayAsHits lists path stay → (hit : Option ℕ) → hit ≡ slice_get stay 0 → FindsHit lists before path old hit
  finds-hit hits hit first watched nohit = subst (IsHitOf lists path) (sym first) (by-stay stay refl)
    where
      by-stay : (s : List ℕ) → s ≡ stay → IsHitOf lists path (slice_get s 0)
      by-stay [] e = λ i lt hit. absurd (none-stays nohit (sym e) watched i lt hit)
      by-stay (n ∷ s) e = hits n (subst (λ (xs : List ℕ). Contains xs n) e (0, omega arith, refl))
