-- Beginnings of paths, and a list that is learned.
use Rattle.std.proofs.Common.{◌≡◌, ◌⊎◌, ℕ, ◌+◌, ◌-◌, ◌<◌, ◌≤◌, ◌==◌, List, [], ◌∷◌, ◌++◌, length, take, drop, get_or, zero, suc, Bool, true, false, Option, Some, None, refl, sym, ◌∙◌, ap, subst, inl, inr, arith, length-append, if◌then◌else◌}
use Rattle.std.proofs.lemmas.List.{get_or-drop, get_or_append_left, get_or_push, get_or-take, length-take, length-take-le, take-append-drop, take-append-le, take_all, take_at}
use Rattle.std.proofs.lemmas.Option.{get_or_from_slice_get, slice_get-get_or, slice_get_within}
use Rattle.std.proofs.lemmas.Bool.{cases_lt}
use Rattle.std.proofs.lemmas.Bool.Decides.{nat_tests}
use Rattle.std.proofs.lemmas.List.Elements.{All-push}
use Rattle.std.specs.Prelude.{Contains, IsSome, slice_get}
use Rattle.std.specs.Option.{option_or, option_to_list}
use Rattle.formula_tree.specs.Answers.{Answers, Contained, IsDistinct, answer_of}
use Rattle.formula_tree.proofs.Laws.{answer_of-rest}
use Rattle.nogoods.specs.Tracking.{AreHits, AreWatched, HasAnswer, IsHitOf, IsTracking, IsWatch, IsWatched, bucket_of, watchers_in}
use Rattle.nogoods.specs.Hits.{IsHit, NoHit, answers_at}
use Rattle.nogoods.specs.Turning.{KeepsWatchers}
use Rattle.nogoods.specs.Joining.{AreMarked, FindsHit, IsShortest, IsWatchedAt, Joins, WatchesOn}
use Rattle.nogoods.proofs.Answering.{answer_of-at, answer_of-found}
use Rattle.nogoods.proofs.Joining.{begun, contained-on, watched-kept}

-- a longer beginning answers what a shorter one does
pub longer : (path : Answers) (c k n : ℕ) (b : Bool) → c ≤ k → answer_of (take c path) n ≡ Some b → answer_of (take k path) n ≡ Some b
longer [] c k n b le e = subst (λ (p : Answers). answer_of p n ≡ Some b) (take_all c [] (omega arith) ∙ sym (take_all k [] (omega arith))) e
longer (p ∷ ps) zero k n b le e = absurd (cc)
longer (p ∷ ps) (suc c) zero n b le e = absurd (omega (arith, le))
longer (p ∷ ps) (suc c) (suc k) n b le e = elim (p.0 == n) as (λ v. (if v then Some p.1 else answer_of (take c ps) n) ≡ Some b → (if v then Some p.1 else answer_of (take k ps) n) ≡ Some b) [
  | true ↦ λ g. g
  | false ↦ λ g. longer ps c k n b (omega (arith, le)) g
] e

pub longer-contains : (answers path : Answers) (c k : ℕ) → c ≤ k → Contained answers (take c path) → Contained answers (take k path)
longer-contains answers path c k le inside n b own = longer path c k n b le (inside n b own)

-- what stands at an index of a path without tests that stand twice is its answer
pub at-index : (ps : Answers) (j n : ℕ) (b : Bool) → IsDistinct ps → slice_get ps j ≡ Some (n, b) → answer_of ps n ≡ Some b
at-index ps j n b distinct at =
    let P : ℕ × Bool → Type 0 = λ p. answer_of ps p.0 ≡ Some p.1 in
    subst P (get_or_from_slice_get ps j (n, b) (n, b) at) (answer_of-at ps j (n, b) distinct (slice_get_within ps j (n, b) at))

-- and isn't answered before
pub not-before : (path : Answers) (k j n : ℕ) (b : Bool) → IsDistinct path → k ≤ j → slice_get path j ≡ Some (n, b) → (c : Bool) → ¬ (answer_of (take k path) n ≡ Some c)
not-before [] k j n b distinct le at c = absurd (cc)
not-before (p ∷ ps) zero j n b distinct le at c = λ e. absurd (cc)
not-before (p ∷ ps) (suc k) zero n b distinct le at c = absurd (omega (arith, le))
not-before (p ∷ ps) (suc k) (suc j) n b distinct le at c = elim (p.0 == n) as (λ v. (p.0 == n) ≡ v → ¬ ((if v then Some p.1 else answer_of (take k ps) n) ≡ Some c)) [
  | true ↦ λ e g. let same : p.0 ≡ n = grind (arith, nat_tests) in later same
  | false ↦ λ e g. not-before ps k j n b distinct.1 (omega (arith, le)) at c g
] refl
  where
    later : p.0 ≡ n → ⊥
    later same =
        let there : answer_of ps n ≡ Some b = at-index ps j n b distinct.1 at in
        let none : answer_of ps n ≡ None = subst (λ (m : ℕ). answer_of ps m ≡ None) same distinct.0 in
        let both : None ≡ Some b = sym none ∙ there in absurd (cc)

-- a beginning behind which no answer of the list stands contains it, if the path does
pub contained-begun : (answers path : Answers) (c : ℕ) → Contained answers path → ((k n : ℕ) (b : Bool) → c ≤ k → slice_get path k ≡ Some (n, b) → ¬ (answer_of answers n ≡ Some b)) → Contained answers (take c path)
contained-begun answers path c inside behind n b own = elim (answer_of (take c path) n) as (λ v. answer_of (take c path) n ≡ v → v ≡ Some b) [
  | None ↦ λ e.
      let rest : answer_of (drop c path) n ≡ Some b = sym (answer_of-rest (take c path) (drop c path) n e) ∙ ap (λ (p : Answers). answer_of p n) (take-append-drop c path) ∙ inside n b own in
      let found = answer_of-found (drop c path) n b rest in
      let at : get_or path (c + found.0) (n, b) ≡ (n, b) = sym (get_or-drop c path found.0 (n, b)) ∙ found.2 (n, b) in
      let within : c + found.0 < length path = within-drop found.0 found.1 in
      absurd (behind (c + found.0) n b (omega arith) (slice_get-get_or path (c + found.0) (n, b) within ∙ ap Some at) own)
  | Some x ↦ λ e. sym (begun path c n x e) ∙ inside n b own
] refl
  where
    within-drop : (i : ℕ) → i < length (drop c path) → c + i < length path
    within-drop i lt = omega (arith, lt, length-append (take c path) (drop c path), ap length (take-append-drop c path), length-take c path, arith)

-- what stands at an index of a copy
pub newest-is : (items path answers : Answers) (k : ℕ) → items ≡ path → HasAnswer answers (get_or items k (0, false)).0 (get_or items k (0, false)).1 → (n : ℕ) (b : Bool) → slice_get path k ≡ Some (n, b) → answer_of answers n ≡ Some b
newest-is items path answers k e has n b at =
    let P : ℕ × Bool → Type 0 = λ p. answer_of answers p.0 ≡ Some p.1 in
    subst P (ap (λ (xs : Answers). get_or xs k (0, false)) e ∙ get_or_from_slice_get path k (n, b) (0, false) at) has

pub no-newest : (items path answers : Answers) (k : ℕ) → items ≡ path → ¬ HasAnswer answers (get_or items k (0, false)).0 (get_or items k (0, false)).1 → (n : ℕ) (b : Bool) → slice_get path k ≡ Some (n, b) → ¬ (answer_of answers n ≡ Some b)
no-newest items path answers k e lacks n b at =
    let P : ℕ × Bool → Type 0 = λ p. ¬ (answer_of answers p.0 ≡ Some p.1) in
    subst P (ap (λ (xs : Answers). get_or xs k (0, false)) e ∙ get_or_from_slice_get path k (n, b) (0, false) at) lacks

-- a shorter path's beginnings are the longer one's
pub begins-shorter : (before more path : Answers) (k : ℕ) → path ≡ before ++ more → k ≤ length before → take k before ≡ take k path
begins-shorter before more path k e le = sym (ap (take k) e ∙ take-append-le k before more le)

pub whole-shorter : (before more path : Answers) (k : ℕ) → path ≡ before ++ more → length before ≤ k → take k before ≡ take (length before) path
whole-shorter before more path k e le = take_all k before le ∙ sym (take_all (length before) before (omega arith)) ∙ begins-shorter before more path (length before) e (omega arith)

pub watch-shorter : (answers before more path : Answers) (n : ℕ) (b : Bool) → path ≡ before ++ more → IsWatch answers path n b → IsWatch answers before n b
watch-shorter answers before more path n b e watch = record {
  own = watch.own;
  shows = λ k given. elim (cases_lt (length before) k) [
    | inl long ↦ at k (length before) (whole-shorter before more path k e (omega (arith, long))) given
    | inr short ↦ at k k (begins-shorter before more path k e short) given
  ];
}
  where
    at : (k j : ℕ) → take k before ≡ take j path → answer_of (take k before) n ≡ Some b → Contained answers (take k before)
    at k j same given = subst (Contained answers) (sym same) (watch.shows j (subst (λ (p : Answers). answer_of p n ≡ Some b) same given))

pub watched-shorter : (lists : List Answers) (before more path : Answers) (watching : List (List ℕ)) → path ≡ before ++ more → AreWatched lists path watching → AreWatched lists before watching
watched-shorter lists before more path watching e watched i lt =
    elim (watched i lt) [
      | inl none ↦ inl none
      | inr w ↦ inr (record { test = w.test; answer = w.answer; is = watch-shorter (answers_at lists i) before more path w.test w.answer e w.is; there = w.there })
    ]

-- and so are the hits
pub hits-shorter : (lists : List Answers) (before more path : Answers) (hits fewer : List (Option ℕ)) → path ≡ before ++ more → fewer ≡ take (length before + 1) hits → AreHits lists path hits → AreHits lists before fewer
hits-shorter lists before more path hits fewer e is found =
    let count : length path ≡ length before + length more = ap length e ∙ length-append before more in
    let enough : length before + 1 ≤ length hits = omega (arith, count, found.count) in
    let size : length fewer ≡ length before + 1 = ap length is ∙ length-take-le (length before + 1) hits enough in
    record {
      count = size;
      each = λ k lt.
          let le : k ≤ length before = omega (arith, lt, size) in
          let here : get_or fewer k None ≡ get_or hits k None = ap (λ (xs : List (Option ℕ)). get_or xs k None) is ∙ get_or-take (length before + 1) hits k None (omega (arith, le)) in
          subst (IsHitOf lists (take k before)) (sym here) (subst (λ (p : Answers). IsHitOf lists p (get_or hits k None)) (sym (begins-shorter before more path k e le)) (found.each k (omega (arith, le, enough))));
    }

-- one more answer, with its hit
pub hits-joined : (lists : List Answers) (before path : Answers) (test : ℕ) (answer : Bool) (hits : List (Option ℕ)) (hit : Option ℕ) → Joins before path test answer → AreHits lists before hits → IsHitOf lists path hit → AreHits lists path (hits ++ hit ∷ [])
hits-joined lists before path test answer hits hit joins found is =
    let count : length path ≡ length before + 1 = ap length joins.is ∙ length-append before ((test, answer) ∷ []) in
    let size : length (hits ++ hit ∷ []) ≡ length hits + 1 = length-append hits (hit ∷ []) in
    record {
      count = omega (arith, size, count, found.count);
      each = λ k lt. elim (cases_lt k (length hits)) [
        | inl earlier ↦
            let e : take k path ≡ take k before = ap (take k) joins.is ∙ take-append-le k before ((test, answer) ∷ []) (omega (arith, earlier, found.count)) in
            subst (IsHitOf lists (take k path)) (sym (get_or_append_left hits (hit ∷ []) None k earlier)) (subst (λ (p : Answers). IsHitOf lists p (get_or hits k None)) (sym e) (found.each k earlier))
        | inr last ↦
            let at : length hits ≡ k = omega (arith, last, lt, size) in
            subst (IsHitOf lists (take k path)) (sym (get_or_push hits hit None k at)) (subst (λ (p : Answers). IsHitOf lists p hit) (sym (take_all k path (omega (arith, at, count, found.count)))) is)
      ];
    }

-- the hit of the path before, or else one of the new answer's lists
pub hit-joined : (lists : List Answers) (before path : Answers) (test : ℕ) (answer : Bool) (earlier joined : Option ℕ) → Joins before path test answer → IsHitOf lists before earlier → (NoHit lists before → IsHitOf lists path joined) → IsHitOf lists path (option_or earlier joined)
hit-joined lists before path test answer (Some i) joined joins was found = (was.0, contained-on (answers_at lists i) before path test answer joins was.1)
hit-joined lists before path test answer None joined joins was found = found was

-- a path that was pushed and popped
pub pushed-popped : (before path popped : Answers) (test : ℕ) (answer : Bool) (last : Option (ℕ × Bool)) → path ≡ before ++ (test, answer) ∷ [] → path ≡ popped ++ option_to_list last → (0 < length path → IsSome last) → popped ≡ before
pushed-popped before path popped test answer (Some p) pushed popping some =
    let count : length popped ≡ length before = omega (arith, ap length pushed ∙ length-append before ((test, answer) ∷ []), ap length popping ∙ length-append popped (p ∷ [])) in
    sym (take_at popped (p ∷ []) (length before) count) ∙ ap (take (length before)) (sym popping ∙ pushed) ∙ take_at before ((test, answer) ∷ []) (length before) refl
pushed-popped before path popped test answer None pushed popping some =
    let none : IsSome {T = ℕ × Bool} None = some (omega (arith, ap length pushed ∙ length-append before ((test, answer) ∷ []))) in
    absurd (cc)

-- ---- one more list

-- the lists before keep their numbers
pub earlier-list : (lists : List Answers) (answers : Answers) (i : ℕ) → i < length lists → answers_at (lists ++ answers ∷ []) i ≡ answers_at lists i
earlier-list lists answers i lt = get_or_append_left lists (answers ∷ []) [] i lt

pub last-list : (lists : List Answers) (answers : Answers) (i : ℕ) → length lists ≡ i → answers_at (lists ++ answers ∷ []) i ≡ answers
last-list lists answers i e = get_or_push lists answers [] i e

pub list-cases : (lists : List Answers) (answers : Answers) (i : ℕ) → i < length (lists ++ answers ∷ []) → (i < length lists) ⊎ (length lists ≡ i)
list-cases lists answers i lt = elim (cases_lt i (length lists)) [
  | inl earlier ↦ inl earlier
  | inr last ↦ inr (omega (arith, lt, last, length-append lists (answers ∷ [])))
]

pub hit-earlier : (lists : List Answers) (answers path : Answers) (i : ℕ) → (i < length lists) × IsHit lists path i → (i < length (lists ++ answers ∷ [])) × IsHit (lists ++ answers ∷ []) path i
hit-earlier lists answers path i was =
    (omega (arith, was.0, length-append lists (answers ∷ [])), subst (λ (a : Answers). Contained a path) (sym (earlier-list lists answers i was.0)) was.1)

pub hit-last : (lists : List Answers) (answers path : Answers) (i : ℕ) → i ≡ length lists → Contained answers path → (i < length (lists ++ answers ∷ [])) × IsHit (lists ++ answers ∷ []) path i
hit-last lists answers path i e inside =
    (omega (arith, e, length-append lists (answers ∷ [])), subst (λ (a : Answers). Contained a path) (sym (last-list lists answers i (sym e))) inside)

pub no-hit-more : (lists : List Answers) (answers path : Answers) → ¬ Contained answers path → NoHit lists path → NoHit (lists ++ answers ∷ []) path
no-hit-more lists answers path lacks none i lt hit = elim (list-cases lists answers i lt) [
  | inl earlier ↦
      let le : length lists ≤ i = none i earlier (subst (λ (a : Answers). Contained a path) (earlier-list lists answers i earlier) hit) in
      absurd (omega (arith, le, earlier))
  | inr last ↦ absurd (lacks (subst (λ (a : Answers). Contained a path) (last-list lists answers i last) hit))
]

-- a hit of the lists before is one of them all, and none is none where the new list isn't contained
pub hit-kept : (lists : List Answers) (answers path : Answers) (hit : Option ℕ) → ¬ Contained answers path → IsHitOf lists path hit → IsHitOf (lists ++ answers ∷ []) path hit
hit-kept lists answers path (Some i) lacks was = hit-earlier lists answers path i was
hit-kept lists answers path None lacks was = no-hit-more lists answers path lacks was

pub hit-marked : (lists : List Answers) (answers path : Answers) (hit : Option ℕ) (number : ℕ) → number ≡ length lists → Contained answers path → IsHitOf lists path hit → IsHitOf (lists ++ answers ∷ []) path (option_or hit (Some number))
hit-marked lists answers path (Some i) number e inside was = hit-earlier lists answers path i was
hit-marked lists answers path None number e inside was = hit-last lists answers path number e inside

-- a beginning that is shorter than the shortest lacks an answer
pub shorter-lacks : (answers path : Answers) (count k : ℕ) → IsDistinct path → IsShortest answers path count → k < count → ¬ Contained answers (take k path)
shorter-lacks answers path count k distinct shortest lt inside =
    let within : count - 1 < length path = omega (arith, lt, shortest.within) in
    let p : ℕ × Bool = get_or path (count - 1) (0, false) in
    let at : slice_get path (count - 1) ≡ Some (p.0, p.1) = slice_get-get_or path (count - 1) (0, false) within in
    not-before path k (count - 1) p.0 p.1 distinct (omega (arith, lt)) at p.1 (inside p.0 p.1 (shortest.newest p.0 p.1 (omega (arith, lt)) at))

pub hits-learned : (lists : List Answers) (answers path : Answers) (count number : ℕ) (hits marked : List (Option ℕ)) → IsDistinct path → number ≡ length lists → IsShortest answers path count → AreMarked hits marked count (length hits) number → AreHits lists path hits → AreHits (lists ++ answers ∷ []) path marked
hits-learned lists answers path count number hits marked distinct e shortest are found = record {
  count = are.count ∙ found.count;
  each = λ k lt.
      let within : k < length hits = omega (arith, lt, are.count) in
      elim (cases_lt k count) [
        | inl short ↦ subst (IsHitOf (lists ++ answers ∷ []) (take k path)) (sym (are.before k short)) (hit-kept lists answers (take k path) (get_or hits k None) (shorter-lacks answers path count k distinct shortest short) (found.each k within))
        | inr long ↦ subst (IsHitOf (lists ++ answers ∷ []) (take k path)) (sym (are.marked k long within)) (hit-marked lists answers (take k path) (get_or hits k None) number e (longer-contains answers path count k long shortest.contains) (found.each k within))
      ];
}

-- the newest answer is a watch
pub watch-learned : (answers path : Answers) (count n : ℕ) (b : Bool) → IsDistinct path → IsShortest answers path count → 0 < count → slice_get path (count - 1) ≡ Some (n, b) → IsWatch answers path n b
watch-learned answers path count n b distinct shortest some at = record {
  own = shortest.newest n b some at;
  shows = λ k given. elim (cases_lt k count) [
    | inl short ↦ absurd (not-before path k (count - 1) n b distinct (omega (arith, short)) at b given)
    | inr long ↦ longer-contains answers path count k long shortest.contains
  ];
}

-- what the empty path contains is empty
pub nothing-contained : (answers : Answers) → Contained answers [] → answers ≡ []
nothing-contained [] inside = refl
nothing-contained (p ∷ ps) inside =
    let own : answer_of (p ∷ ps) p.0 ≡ Some p.1 = grind (arith, nat_tests) in
    let none : None ≡ Some p.1 = inside p.0 p.1 own in
    absurd (cc)

pub watched-learned : (lists : List Answers) (answers path : Answers) (count number : ℕ) (old new : List (List ℕ)) → IsDistinct path → number ≡ length lists → IsShortest answers path count → KeepsWatchers old new → IsWatchedAt path count new number → AreWatched lists path old → AreWatched (lists ++ answers ∷ []) path new
watched-learned lists answers path count number old new distinct e shortest keeps at watched i lt =
    let P : Answers → Type 0 = λ a. (a ≡ []) ⊎ IsWatched new a path i in
    elim (list-cases lists answers i lt) [
      | inl earlier ↦ subst P (sym (earlier-list lists answers i earlier)) (watched-kept lists path old new keeps watched i earlier)
      | inr last ↦ subst P (sym (last-list lists answers i last)) (elim (cases_lt 0 count) [
        | inl some ↦
            let within : count - 1 < length path = omega (arith, some, shortest.within) in
            let p : ℕ × Bool = get_or path (count - 1) (0, false) in
            let newest : slice_get path (count - 1) ≡ Some (p.0, p.1) = slice_get-get_or path (count - 1) (0, false) within in
            let here : Contains (watchers_in new (bucket_of p.0 p.1)) i = subst (λ (m : ℕ). Contains (watchers_in new (bucket_of p.0 p.1)) m) (e ∙ last) (at p.0 p.1 some newest) in
            inr (record { test = p.0; answer = p.1; is = watch-learned answers path count p.0 p.1 distinct shortest some newest; there = here })
        | inr none ↦
            let zero_count : count ≡ 0 = omega (arith, none) in
            inl (nothing-contained answers (subst (λ (m : ℕ). Contained answers (take m path)) zero_count shortest.contains))
      ])
    ]

pub tracking-learned : (lists : List Answers) (answers path : Answers) (count number : ℕ) (old new : List (List ℕ)) (hits marked : List (Option ℕ)) → IsDistinct path → IsDistinct answers → number ≡ length lists → IsShortest answers path count → KeepsWatchers old new → IsWatchedAt path count new number →
    AreMarked hits marked count (length hits) number → IsTracking lists path old hits → IsTracking (lists ++ answers ∷ []) path new marked
tracking-learned lists answers path count number old new hits marked distinct own e shortest keeps at are was = record {
  distinct = All-push IsDistinct lists answers was.distinct own;
  watched = watched-learned lists answers path count number old new distinct e shortest keeps at was.watched;
  found = hits-learned lists answers path count number hits marked distinct e shortest are was.found;
}

-- ---- the same paths and lists, in other words

pub tracking-shorter : (lists : List Answers) (before more path : Answers) (watching : List (List ℕ)) (hits fewer : List (Option ℕ)) → path ≡ before ++ more → fewer ≡ take (length before + 1) hits → IsTracking lists path watching hits → IsTracking lists before watching fewer
tracking-shorter lists before more path watching hits fewer e is was = record {
  distinct = was.distinct;
  watched = watched-shorter lists before more path watching e was.watched;
  found = hits-shorter lists before more path hits fewer e is was.found;
}

pub tracking-joined : (lists : List Answers) (before path : Answers) (test : ℕ) (answer : Bool) (old new : List (List ℕ)) (hits more : List (Option ℕ)) (earlier joined : Option ℕ) → Joins before path test answer → IsHitOf lists before earlier →
    WatchesOn lists before path old new → FindsHit lists before path old joined → more ≡ hits ++ option_or earlier joined ∷ [] → IsTracking lists before old hits → IsTracking lists path new more
tracking-joined lists before path test answer old new hits more earlier joined joins was watches finds e tracking = record {
  distinct = tracking.distinct;
  watched = watches tracking.watched;
  found = subst (AreHits lists path) (sym e) (hits-joined lists before path test answer hits (option_or earlier joined) joins tracking.found (hit-joined lists before path test answer earlier joined joins was (finds tracking.watched)));
}

-- where the watches alone changed, and the path is as before
pub tracking-watched : (lists : List Answers) (before path : Answers) (old new : List (List ℕ)) (hits : List (Option ℕ)) → path ≡ before → WatchesOn lists before before old new → IsTracking lists before old hits → IsTracking lists path new hits
tracking-watched lists before path old new hits e watches was =
    subst (λ (p : Answers). IsTracking lists p new hits) (sym e) (record { distinct = was.distinct; watched = watches was.watched; found = was.found })

-- the same, where they changed along a longer path
pub tracking-popped : (lists : List Answers) (before path popped : Answers) (test : ℕ) (answer : Bool) (old new : List (List ℕ)) (hits same : List (Option ℕ)) → path ≡ before ++ (test, answer) ∷ [] → popped ≡ before → WatchesOn lists before path old new → same ≡ hits →
    IsTracking lists before old hits → IsTracking lists popped new same
tracking-popped lists before path popped test answer old new hits same pushed back watches e was =
    let on : WatchesOn lists before before old new = λ watched. watched-shorter lists before ((test, answer) ∷ []) path new pushed (watches watched) in
    subst (λ (h : List (Option ℕ)). IsTracking lists popped new h) (sym e) (tracking-watched lists before popped old new hits back on was)
