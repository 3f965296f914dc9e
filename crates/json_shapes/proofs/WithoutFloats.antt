-- A member that is put among others brings no floating-point number with it.
use Rattle.std.proofs.Common.{◌≡◌, ◌||◌, Bool, List, ℕ, true, false, Ordering, Less, Equal, Greater, nat_cmp, refl}
use Rattle.std.specs.Cmp.Lexicographic.{slice_cmp}
use Rattle.std.specs.Ordering.{match_ordering}
use Rattle.serde_json.specs.Data.{Data, Members, no_members, member, put}
use Rattle.serde_json.specs.Written.{has_float, members_have_float}

pub neither : (p q : Bool) → p ≡ false → q ≡ false → (p || q) ≡ false
neither false q h k = k
neither true q h k = absurd (cc)

pub first-isn't : (p q : Bool) → (p || q) ≡ false → p ≡ false
first-isn't false q h = refl
first-isn't true q h = absurd (cc)

pub second-isn't : (p q : Bool) → (p || q) ≡ false → q ≡ false
second-isn't false q h = h
second-isn't true q h = absurd (cc)

-- whichever of three members is taken
of-three : (o : Ordering) (a b c : Members) → members_have_float a ≡ false → members_have_float b ≡ false → members_have_float c ≡ false → members_have_float (match_ordering o a b c) ≡ false
of-three Less a b c x y z = x
of-three Equal a b c x y z = y
of-three Greater a b c x y z = z

pub put-no_float : (k : List ℕ) (d : Data) (ms : Members) → has_float d ≡ false → members_have_float ms ≡ false → members_have_float (put k d ms) ≡ false
put-no_float k d no_members h none = neither (has_float d) false h refl
put-no_float k d (member l e ms) h none =
    let rest = second-isn't (has_float e) (members_have_float ms) none in
    of-three (slice_cmp nat_cmp k l) (member k d (member l e ms)) (member l d ms) (member l e (put k d ms))
    (neither (has_float d) (members_have_float (member l e ms)) h none)
    (neither (has_float d) (members_have_float ms) h rest)
    (neither (has_float e) (members_have_float (put k d ms)) (first-isn't (has_float e) (members_have_float ms) none) (put-no_float k d ms h rest))
