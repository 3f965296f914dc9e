-- One level more, and one less.
use Rattle.std.proofs.Common.{◌≡◌, ℕ, Bool, ◌<◌, ◌≤◌, ◌+◌, List, [], ◌∷◌, ◌++◌, length, take, drop, get_or, option_to_list, Option, Some, None, ◌⊎◌, ◌↔◌, refl, append-nil, inl, inr, sym, ap, subst, ◌∙◌, arith}
use Rattle.std.specs.Prelude.{IsSome}
use Rattle.std.proofs.lemmas.List.{nil_from_length, take_more, take_all, take_at, take-take, take-append-le, length_push, length-append, length-take-le, get_or_append_left, get_or_at}
use Rattle.std.proofs.lemmas.Bool.{cases_lt}
use Rattle.formula_tree.specs.Answers.{Answers}
use Rattle.cnf_clauses.specs.Literals.{Clause}
use Rattle.cnf_clauses.specs.Levels.{IsLevel, AreLevels}
use Rattle.cnf_clauses.specs.Reasons.{Extends, HaveReasons}
use Rattle.cnf_clauses.specs.Trails.{HasReasons, IsBack, IsCut, IsEmptyTrail, IsNextLevel, IsQuietTrail, IsSameTrail, IsTrailOf, KeepsReasons, TrailExtends}
use Rattle.cnf_clauses.specs.declared.trail.Trail.{Trail}
use Rattle.cnf_clauses.proofs.Answering.{nothing-contained}
use Rattle.cnf_clauses.proofs.Extending.{extends-on, extends-whole}
use Rattle.cnf_clauses.proofs.Reasons.{reasons-length}

level-is : (cs : List Clause) (p q d e : Answers) (r s : List (Option ℕ)) → p ≡ q → d ≡ e → r ≡ s → IsLevel cs p d r → IsLevel cs q e s
level-is cs p q d e r s a b c h =
    subst (λ (x : Answers). IsLevel cs x e s) a (subst (λ (x : Answers). IsLevel cs p x s) b (subst (λ (x : List (Option ℕ)). IsLevel cs p d x) c h))

-- the last of a list, by the length of another
last_is : (m : List ℕ) (n k : ℕ) → length m ≡ k → get_or (m ++ n ∷ []) k 0 ≡ n
last_is m n k e = get_or_at m n [] 0 k e

earlier : (m : List ℕ) (n k : ℕ) → k < length m → get_or (m ++ n ∷ []) k 0 ≡ get_or m k 0
earlier m n k h = get_or_append_left m (n ∷ []) 0 k h

-- an index of a longer list
below_last : (xs : Answers) (x : ℕ × Bool) (k : ℕ) → k < length (xs ++ x ∷ []) → (k < length xs) ⊎ (k ≡ length xs)
below_last xs x k h = elim (cases_lt k (length xs)) [ inl l ↦ inl l | inr g ↦ inr (omega (arith, length_push xs x)) ]

pub level-push : (cs : List Clause) (p d more : Answers) (r rs : List (Option ℕ)) (m : List ℕ) (x : ℕ × Bool) → AreLevels cs p d r m → IsLevel cs (p ++ x ∷ []) (d ++ more) (r ++ rs) →
    AreLevels cs (p ++ x ∷ []) (d ++ more) (r ++ rs) (m ++ length d ∷ [])
level-push cs p d more r rs m x old new = record {
  now = new;
  count = length_push m (length d) ∙ ap (λ (k : ℕ). k + 1) old.count ∙ sym (length_push p x);
  within = λ k h.
      elim (below_last p x k h) [
        | inl l ↦
            let inside : k < length m = omega (arith, old.count) in
            let bound : get_or m k 0 ≤ length d = old.within k l in
            rw (earlier m (length d) k inside, length-append d more) (omega arith)
        | inr e ↦ rw (last_is m (length d) k (old.count ∙ sym e), length-append d more) (omega arith)
      ];
  rise = λ j k less h.
      elim (below_last p x k h) [
        | inl l ↦
            let first : j < length m = omega (arith, old.count) in
            let second : k < length m = omega (arith, old.count) in
            rw (earlier m (length d) j first, earlier m (length d) k second) (old.rise j k less l)
        | inr e ↦
            let first : j < length p = omega arith in
            let inside : j < length m = omega (arith, old.count) in
            rw (earlier m (length d) j inside, last_is m (length d) k (old.count ∙ sym e)) (old.within j first)
      ];
  before = λ k h.
      elim (below_last p x k h) [
        | inl l ↦
            let inside : k < length m = omega (arith, old.count) in
            let bound : get_or m k 0 ≤ length d = old.within k l in
            let also : get_or m k 0 ≤ length r = omega (arith, reasons-length cs p [] d r old.now.explained) in
            rw (earlier m (length d) k inside)
            (level-is cs (take k p) (take k (p ++ x ∷ [])) (take (get_or m k 0) d) (take (get_or m k 0) (d ++ more)) (take (get_or m k 0) r) (take (get_or m k 0) (r ++ rs))
            (sym (take-append-le k p (x ∷ []) (omega arith))) (sym (take-append-le (get_or m k 0) d more bound)) (sym (take-append-le (get_or m k 0) r rs also)) (old.before k l))
        | inr e ↦
            rw (last_is m (length d) k (old.count ∙ sym e))
            (level-is cs p (take k (p ++ x ∷ [])) d (take (length d) (d ++ more)) r (take (length d) (r ++ rs))
            (sym (take_at p (x ∷ []) k (sym e))) (sym (take_at d more (length d) refl)) (sym (take_at r rs (length d) (reasons-length cs p [] d r old.now.explained))) old.now)
      ];
}

pub level-pop : (cs : List Clause) (p d : Answers) (r : List (Option ℕ)) (m : List ℕ) (x : ℕ × Bool) (n : ℕ) → AreLevels cs (p ++ x ∷ []) d r (m ++ n ∷ []) →
    AreLevels cs p (take n d) (take n r) m
level-pop cs p d r m x n old =
    let same : length m ≡ length p = omega (arith, old.count, length_push m n, length_push p x) in
    let top : length p < length (p ++ x ∷ []) = omega (arith, length_push p x) in
    let mark : get_or (m ++ n ∷ []) (length p) 0 ≡ n = last_is m n (length p) same in
    let bound : n ≤ length d = rw mark at (old.within (length p) top) in
    let whole : length (take n d) ≡ n = length-take-le n d bound in
    let below : (k : ℕ) → k < length p → get_or m k 0 ≤ n = λ k h. (
    let deep : k < length (p ++ x ∷ []) = omega arith in
    let inside : k < length m = omega arith in
    rw (earlier m n k inside, mark) at (old.rise k (length p) h top)) in
    record {
      now = level-is cs (take (length p) (p ++ x ∷ [])) p (take (get_or (m ++ n ∷ []) (length p) 0) d) (take n d) (take (get_or (m ++ n ∷ []) (length p) 0) r) (take n r)
          (take_at p (x ∷ []) (length p) refl) (ap (λ (k : ℕ). take k d) mark) (ap (λ (k : ℕ). take k r) mark) (old.before (length p) top);
      count = same;
      within = λ k h. rw whole (below k h);
      rise = λ j k less h.
          let first : j < length m = omega arith in
          let second : k < length m = omega arith in
          let deep : k < length (p ++ x ∷ []) = omega arith in
          rw (earlier m n j first, earlier m n k second) at (old.rise j k less deep);
      before = λ k h.
          let inside : k < length m = omega arith in
          let deep : k < length (p ++ x ∷ []) = omega arith in
          let same_mark : get_or (m ++ n ∷ []) k 0 ≡ get_or m k 0 = earlier m n k inside in
          level-is cs (take k (p ++ x ∷ [])) (take k p) (take (get_or (m ++ n ∷ []) k 0) d) (take (get_or m k 0) (take n d)) (take (get_or (m ++ n ∷ []) k 0) r) (take (get_or m k 0) (take n r))
          (take-append-le k p (x ∷ []) (omega arith))
          (ap (λ (i : ℕ). take i d) same_mark ∙ sym (take-take (get_or m k 0) n d (below k h)))
          (ap (λ (i : ℕ). take i r) same_mark ∙ sym (take-take (get_or m k 0) n r (below k h))) (old.before k deep);
    }

-- ---- trails

levels-is : (cs : List Clause) (p q d e : Answers) (r s : List (Option ℕ)) (m n : List ℕ) → q ≡ p → e ≡ d → s ≡ r → n ≡ m → AreLevels cs p d r m → AreLevels cs q e s n
levels-is cs p q d e r s m n a b c f h =
    let first : AreLevels cs q d r m = subst (λ (x : Answers). AreLevels cs x d r m) (sym a) h in
    let second : AreLevels cs q e r m = subst (λ (x : Answers). AreLevels cs q x r m) (sym b) first in
    let third : AreLevels cs q e s m = subst (λ (x : List (Option ℕ)). AreLevels cs q e x m) (sym c) second in
    subst (λ (x : List ℕ). AreLevels cs q e s x) (sym f) third

pub trail-same : (cs : List Clause) (p q : Answers) (old new : Trail) → q ≡ p → IsSameTrail old new → IsTrailOf cs p old → IsTrailOf cs q new
trail-same cs p q old new e same h =
    levels-is cs p q old.decided new.decided old.reasons.items new.reasons.items old.marks.items new.marks.items e same.decided same.reasons same.marks h

none-some : IsSome {T = ℕ × Bool} None → ⊥
none-some h = absurd (cc)

-- the path is as it was before its last answer
pub popped-back : (before path popped : Answers) (x : ℕ × Bool) (last : Option (ℕ × Bool)) → path ≡ before ++ x ∷ [] → path ≡ popped ++ option_to_list last → IsSome last ↔ (0 < length path) → popped ≡ before
popped-back before path popped x (Some p) pushed popping some =
    let count : length popped ≡ length before = omega (arith, ap (λ (q : Answers). length q) pushed, length_push before x, ap (λ (q : Answers). length q) popping, length_push popped p) in
    sym (take_at popped (p ∷ []) (length before) count) ∙ ap (take (length before)) (sym popping ∙ pushed) ∙ take_at before (x ∷ []) (length before) refl
popped-back before path popped x None pushed popping some = absurd (none-some (some.1 (omega (arith, ap (λ (q : Answers). length q) pushed, length_push before x))))

-- a list is what comes before its last item, and the item
split-last : (m : List ℕ) (k : ℕ) → length m ≡ k + 1 → m ≡ take k m ++ get_or m k 0 ∷ []
split-last m k e =
    let inside : k < length m = omega arith in
    sym (take_all (k + 1) m (omega arith)) ∙ take_more m k 0 inside

trail-shorter : (cs : List Clause) (path p : Answers) (x : ℕ × Bool) (old new : Trail) → path ≡ p ++ x ∷ [] → IsCut old new → IsTrailOf cs path old → IsTrailOf cs p new
trail-shorter cs path p x old new e cut h =
    let longer : AreLevels cs (p ++ x ∷ []) old.decided old.reasons.items old.marks.items =
    subst (λ (y : Answers). AreLevels cs y old.decided old.reasons.items old.marks.items) e h in
    let rest : List ℕ = take (length p) old.marks.items in
    let mark : ℕ = get_or old.marks.items (length p) 0 in
    let parts : old.marks.items ≡ take (length p) old.marks.items ++ get_or old.marks.items (length p) 0 ∷ [] =
    split-last old.marks.items (length p) (longer.count ∙ length_push p x) in
    let back : IsBack old new (take (length p) old.marks.items) (get_or old.marks.items (length p) 0) = cut (take (length p) old.marks.items) (get_or old.marks.items (length p) 0) parts in
    let marked : AreLevels cs (p ++ x ∷ []) old.decided old.reasons.items (take (length p) old.marks.items ++ get_or old.marks.items (length p) 0 ∷ []) =
    subst (λ (y : List ℕ). AreLevels cs (p ++ x ∷ []) old.decided old.reasons.items y) parts longer in
    let less : AreLevels cs p (take (get_or old.marks.items (length p) 0) old.decided) (take (get_or old.marks.items (length p) 0) old.reasons.items) (take (length p) old.marks.items) =
    level-pop cs p old.decided old.reasons.items (take (length p) old.marks.items) x (get_or old.marks.items (length p) 0) marked in
    levels-is cs p p (take (get_or old.marks.items (length p) 0) old.decided) new.decided (take (get_or old.marks.items (length p) 0) old.reasons.items) new.reasons.items
    (take (length p) old.marks.items) new.marks.items refl back.decided back.reasons back.marks less

-- the last answer is taken back
pub trail-back : (cs : List Clause) (path p : Answers) (o : Option (ℕ × Bool)) (old new : Trail) → path ≡ p ++ option_to_list o → IsSome o ↔ (0 < length path) → IsCut old new →
    (old.marks.items ≡ [] → IsSameTrail old new) → IsTrailOf cs path old → IsTrailOf cs p new
trail-back cs path p (Some x) old new e some cut empty h = trail-shorter cs path p x old new e cut h
trail-back cs path p None old new e some cut empty h =
    let whole : p ≡ path = sym (append-nil p) ∙ sym e in
    let none : length path ≡ 0 = elim (cases_lt 0 (length path)) [ inl l ↦ absurd (none-some (some.1 l)) | inr g ↦ omega arith ] in
    trail-same cs path p old new whole (empty (nil_from_length old.marks.items (h.count ∙ none))) h

-- one more answer
pub trail-next : (cs : List Clause) (p q : Answers) (x : ℕ × Bool) (old new : Trail) → q ≡ p ++ x ∷ [] → IsTrailOf cs p old → IsNextLevel cs q old new → IsTrailOf cs q new
trail-next cs p q x old new e h next =
    let more : Answers = drop (length old.decided) new.decided in
    let decided : new.decided ≡ old.decided ++ drop (length old.decided) new.decided = extends-whole old.decided new.decided next.decided in
    let reasons : new.reasons.items ≡ old.reasons.items ++ drop (length old.reasons.items) new.reasons.items = extends-whole old.reasons.items new.reasons.items next.reasons in
    let level : IsLevel cs (p ++ x ∷ []) (old.decided ++ drop (length old.decided) new.decided) (old.reasons.items ++ drop (length old.reasons.items) new.reasons.items) =
    level-is cs q (p ++ x ∷ []) new.decided (old.decided ++ drop (length old.decided) new.decided) new.reasons.items (old.reasons.items ++ drop (length old.reasons.items) new.reasons.items)
    e decided reasons next.level in
    levels-is cs (p ++ x ∷ []) q (old.decided ++ drop (length old.decided) new.decided) new.decided (old.reasons.items ++ drop (length old.reasons.items) new.reasons.items) new.reasons.items
    (old.marks.items ++ length old.decided ∷ []) new.marks.items e decided reasons next.marks
    (level-push cs p old.decided (drop (length old.decided) new.decided) old.reasons.items (drop (length old.reasons.items) new.reasons.items) old.marks.items x h level)

pub extends-then : (old mid new : Trail) → TrailExtends old mid → TrailExtends mid new → TrailExtends old new
extends-then old mid new first next = record {
  decided = extends-on old.decided mid.decided new.decided first.decided next.decided;
  reasons = extends-on old.reasons.items mid.reasons.items new.reasons.items first.reasons next.reasons;
  marks = next.marks ∙ first.marks;
}

-- what was followed behind a mark is taken back
pub trail-undone : (cs : List Clause) (path : Answers) (old marked mid new : Trail) (n : ℕ) → HasReasons cs path old → n ≡ length old.decided → marked.decided ≡ old.decided →
    marked.reasons.items ≡ old.reasons.items → marked.marks.items ≡ old.marks.items ++ n ∷ [] → TrailExtends marked mid → IsCut mid new → IsSameTrail old new
trail-undone cs path old marked mid new n reasons start d r m more cut =
    let back : IsBack mid new old.marks.items n = cut old.marks.items n (more.marks ∙ m) in
    let first : take (length old.decided) mid.decided ≡ old.decided = subst (λ (x : Answers). Extends x mid.decided) d more.decided in
    let second : take (length old.reasons.items) mid.reasons.items ≡ old.reasons.items = subst (λ (x : List (Option ℕ)). Extends x mid.reasons.items) r more.reasons in
    let even : n ≡ length old.reasons.items = start ∙ sym (reasons-length cs path [] old.decided old.reasons.items reasons) in
    record {
      decided = back.decided ∙ ap (λ (k : ℕ). take k mid.decided) start ∙ first;
      reasons = back.reasons ∙ ap (λ (k : ℕ). take k mid.reasons.items) even ∙ second;
      marks = back.marks;
    }

-- ---- the trail of the empty path

pub empty-reasons : (cs : List Clause) (path : Answers) (trail : Trail) → IsEmptyTrail trail → HasReasons cs path trail
empty-reasons cs path trail empty =
    subst (λ (r : List (Option ℕ)). HaveReasons cs path [] trail.decided r) (sym empty.reasons) (subst (λ (d : Answers). HaveReasons cs path [] d []) (sym empty.decided) tt)

pub trail-begun : (cs : List Clause) (path : Answers) (old new : Trail) → path ≡ [] → IsEmptyTrail old → KeepsReasons cs old new → IsQuietTrail cs new → new.marks.items ≡ old.marks.items → IsTrailOf cs path new
trail-begun cs path old new none empty reasons quiet marks =
    let short : length path ≡ 0 = ap (λ (p : Answers). length p) none in
    record {
      now = record {
        answers = nothing-contained path new.decided none;
        explained = reasons path (empty-reasons cs path old empty);
        quiet = quiet;
      };
      count = ap (λ (m : List ℕ). length m) (marks ∙ empty.marks) ∙ sym short;
      within = λ k l. absurd (omega (arith, l, short));
      rise = λ j k before l. absurd (omega (arith, l, short));
      before = λ k l. absurd (omega (arith, l, short));
    }
