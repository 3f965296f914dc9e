-- Pairs of two lists of one length.
use Rattle.std.proofs.Common.{◌≡◌, ℕ, ◌<◌, List, [], ◌∷◌, ◌++◌, length, Bool, true, Some, zero, suc, refl, sym, ◌∙◌, ap, subst, arith, zip, slice_get, get_or, length-append}
use Rattle.std.proofs.lemmas.Grind.{common_steps}
use Rattle.std.proofs.lemmas.List.{get_or_read}
use Rattle.std.proofs.lemmas.Option.{slice_get_read}
use Rattle.std.specs.declared.rc.Rc.{Rc}
use Rattle.std.specs.Global.{Global}
use Rattle.formula_tree.specs.Answers.{Answers, Contained}
use Rattle.nogoods.specs.Hits.{IsFirstHit, NoHit}
use Rattle.nogoods.specs.Stored.{stored_lists, AllClose, shared_values}

pub zip-push : {A B : Type 0} (xs : List A) (ys : List B) (x : A) (y : B) → length xs ≡ length ys → zip (xs ++ x ∷ []) (ys ++ y ∷ []) ≡ zip xs ys ++ (x, y) ∷ []
zip-push [] [] x y h = refl
zip-push [] (b ∷ ys) x y h = absurd (omega (arith, h))
zip-push (a ∷ xs) [] x y h = absurd (omega (arith, h))
zip-push (a ∷ xs) (b ∷ ys) x y h = ap (λ zs. (a, b) ∷ zs) (zip-push xs ys x y (omega (arith, h)))

pub stored_lists-zip : {B : Type 0} (xs : List Answers) (ys : List B) → length xs ≡ length ys → stored_lists (zip xs ys) ≡ xs
stored_lists-zip [] ys h = refl
stored_lists-zip (a ∷ xs) [] h = absurd (omega (arith, h))
stored_lists-zip (a ∷ xs) (b ∷ ys) h = ap (λ zs. a ∷ zs) (stored_lists-zip xs ys (omega (arith, h)))

pub slice_get-zip : {A B : Type 0} (xs : List A) (ys : List B) (i : ℕ) (x : A) (y : B) → slice_get xs i ≡ Some x → slice_get ys i ≡ Some y → slice_get (zip xs ys) i ≡ Some (x, y)
slice_get-zip [] ys i x y h g = absurd (cc)
slice_get-zip (a ∷ xs) [] i x y h g = absurd (cc)
slice_get-zip (a ∷ xs) (b ∷ ys) zero x y h g = cc
slice_get-zip (a ∷ xs) (b ∷ ys) (suc i) x y h g = slice_get-zip xs ys i x y h g

pub close-push : {T : Type 0} (closes : T → Answers → Bool) (store : List (Answers × T)) (answers : Answers) (what : T) → AllClose closes store → closes what answers ≡ true → AllClose closes (store ++ (answers, what) ∷ [])
close-push closes [] answers what all one zero a w h = grind (arith, common_steps)
close-push closes [] answers what all one (suc i) a w h = absurd (cc)
close-push closes (p ∷ store) answers what all one zero a w h = all zero a w h
close-push closes (p ∷ store) answers what all one (suc i) a w h = close-push closes store answers what (λ j b v g. all (suc j) b v g) one i a w h

pub shared-length : {T : Type 0} (items : List (Rc T Global)) → length (shared_values items) ≡ length items
shared-length [] = refl
shared-length (r ∷ items) = ap suc (shared-length items)

pub shared-get : {T : Type 0} (items : List (Rc T Global)) (i : ℕ) (r : Rc T Global) → i < length items → r ≡ get_or items i r → slice_get (shared_values items) i ≡ Some r.value
shared-get [] i r lt is = absurd (omega (arith, lt))
shared-get (a ∷ items) zero r lt is = ap (λ x. Some x.value) (sym is)
shared-get (a ∷ items) (suc i) r lt is = shared-get items i r (omega (arith, lt)) is

pub shared-push : {T : Type 0} (items : List (Rc T Global)) (r : Rc T Global) → shared_values (items ++ r ∷ []) ≡ shared_values items ++ r.value ∷ []
shared-push [] r = refl
shared-push (a ∷ items) r = ap (λ xs. a.value ∷ xs) (shared-push items r)

-- the pairs of lists and values
abbrev pub pairs : {T : Type 0} → List Answers → List (Rc T Global) → List (Answers × T)
pairs lists items = zip lists (shared_values items)

pub stored_lists-pairs : {T : Type 0} (lists : List Answers) (items : List (Rc T Global)) → length lists ≡ length items → stored_lists (pairs lists items) ≡ lists
stored_lists-pairs lists items e = stored_lists-zip lists (shared_values items) (e ∙ sym (shared-length items))

pub pairs-push : {T : Type 0} (lists : List Answers) (items : List (Rc T Global)) (list : Answers) (r : Rc T Global) → length lists ≡ length items → pairs (lists ++ list ∷ []) (items ++ r ∷ []) ≡ pairs lists items ++ (list, r.value) ∷ []
pairs-push lists items list r e = ap (λ xs. zip (lists ++ list ∷ []) xs) (shared-push items r) ∙ zip-push lists (shared_values items) list r.value (e ∙ sym (shared-length items))

pub no-hit-in : {T : Type 0} (lists : List Answers) (items : List (Rc T Global)) (store : List (Answers × T)) (path : Answers) → length lists ≡ length items → pairs lists items ≡ store → NoHit lists path → NoHit (stored_lists store) path
no-hit-in lists items store path e is none = let P : List Answers → Type 0 = λ xs. NoHit xs path in subst P (sym (ap stored_lists (sym is) ∙ stored_lists-pairs lists items e)) none

pub first-hit-in : {T : Type 0} (lists : List Answers) (items : List (Rc T Global)) (store : List (Answers × T)) (path : Answers) (i : ℕ) → length lists ≡ length items → pairs lists items ≡ store → IsFirstHit lists path i → IsFirstHit (stored_lists store) path i
first-hit-in lists items store path i e is first = let P : List Answers → Type 0 = λ xs. IsFirstHit xs path i in subst P (sym (ap stored_lists (sym is) ∙ stored_lists-pairs lists items e)) first

-- the pair at an index
pub pair-at : {T : Type 0} (lists : List Answers) (items : List (Rc T Global)) (i : ℕ) (list : Answers) (r : Rc T Global) → length lists ≡ length items → i < length lists → list ≡ get_or lists i list → r ≡ get_or items i r → slice_get (pairs lists items) i ≡ Some (list, r.value)
pair-at lists items i list r e lt h is =
    slice_get-zip lists (shared_values items) i list r.value (slice_get_read lists (length lists) i list refl lt h) (shared-get items i r (omega (arith, lt, e)) is)

-- its answers are contained in the path
pub contained-at : (lists : List Answers) (path : Answers) (i : ℕ) (list : Answers) → IsFirstHit lists path i → list ≡ get_or lists i list → Contained list path
contained-at lists path i list first h = subst (λ (xs : Answers). Contained xs path) (sym (get_or_read lists i list first.there h [])) first.hit

-- one pair more
pub lengths-push : {T : Type 0} (lists longer : List Answers) (items more : List (Rc T Global)) (list : Answers) (r : Rc T Global) → longer ≡ lists ++ list ∷ [] → more ≡ items ++ r ∷ [] → length lists ≡ length items → length longer ≡ length more
lengths-push lists longer items more list r e f h = omega (arith, h, ap length e ∙ length-append lists (list ∷ []), ap length f ∙ length-append items (r ∷ []))

pub pairs-more : {T : Type 0} (lists longer : List Answers) (items more : List (Rc T Global)) (list : Answers) (r : Rc T Global) → longer ≡ lists ++ list ∷ [] → more ≡ items ++ r ∷ [] → length lists ≡ length items → pairs longer more ≡ pairs lists items ++ (list, r.value) ∷ []
pairs-more lists longer items more list r e f h = ap (λ xs. pairs xs more) e ∙ ap (λ ys. pairs (lists ++ list ∷ []) ys) f ∙ pairs-push lists items list r h

pub close-more : {T : Type 0} (closes : T → Answers → Bool) (lists longer : List Answers) (items more : List (Rc T Global)) (list : Answers) (r : Rc T Global) → longer ≡ lists ++ list ∷ [] → more ≡ items ++ r ∷ [] → length lists ≡ length items → AllClose closes (pairs lists items) → closes r.value list ≡ true → AllClose closes (pairs longer more)
close-more {T} closes lists longer items more list r e f h all one = let P : List (Answers × T) → Type 0 = λ xs. AllClose closes xs in subst P (sym (pairs-more lists longer items more list r e f h)) (close-push closes (pairs lists items) list r.value all one)
