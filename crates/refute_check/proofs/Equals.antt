-- Lists that are compared element by element.
use Rattle.std.proofs.Common.{◌≡◌, ◌<◌, ◌+◌, ℕ, List, length, take, get_or, Bool, true, false, not, nat_eq, refl, sym, ◌∙◌, arith}
use Rattle.std.proofs.lemmas.Bool.Decides.{Decides-eqb}
use Rattle.std.proofs.lemmas.List.{take_all, take_more_same}
use Rattle.std.specs.Cmp.Lexicographic.{pointwise, pointwise_decides}

not-false : (b : Bool) → not b ≡ false → b ≡ true
not-false true e = refl
not-false false e = absurd (cc)

-- elements that don't differ are equal
pub same-lists : (x y : List ℕ) (b : Bool) → b ≡ not (pointwise nat_eq x y) → b ≡ false → x ≡ y
same-lists x y b is off = (pointwise_decides Decides-eqb x y).0 (not-false (pointwise nat_eq x y) (sym is ∙ off))

-- one more element is equal
pub same-more : {X : Type 0} (xs ys : List X) (i : ℕ) (d x y : X) → i < length xs → length xs ≡ length ys → x ≡ get_or xs i d → y ≡ get_or ys i d → x ≡ y → take i xs ≡ take i ys → take (i + 1) xs ≡ take (i + 1) ys
same-more xs ys i d x y within long first second same before = take_more_same xs ys i d within (omega arith) before (sym first ∙ same ∙ second)

-- and so all are
pub same-all : {X : Type 0} (xs ys : List X) (i : ℕ) → i ≡ length xs → length xs ≡ length ys → take i xs ≡ take i ys → xs ≡ ys
same-all xs ys i end long same = sym (take_all i xs (omega arith)) ∙ same ∙ take_all i ys (omega arith)
