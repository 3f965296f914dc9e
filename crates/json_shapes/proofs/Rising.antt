-- Members in rising order of their names, and members that are put in one after another.
use Rattle.std.proofs.Common.{◌≡◌, ℕ, List, Ordering, Less, Equal, Greater, refl, ap, sym, ◌∙◌, subst, nat_cmp}
use Rattle.std.specs.Cmp.Lexicographic.{slice_cmp}
use Rattle.std.specs.Ordering.{is_eq, match_ordering, ordering_reverse}
use Rattle.std.proofs.lemmas.Cmp.{nat_list_cmp_total}
use Rattle.std.proofs.lemmas.Map.Text.{is_eq-slice_cmp}
use Rattle.std.proofs.lemmas.Slice.Eq.{bytes_eq-Decides}
use Rattle.serde_json.specs.Data.{Data, Members, no_members, member, put}
use Rattle.json_shapes.specs.Spelled.{EachMember, NamesRise}

abbrev cmp : List ℕ → List ℕ → Ordering
cmp = slice_cmp nat_cmp

same-name : (n l : List ℕ) → cmp n l ≡ Equal → n ≡ l
same-name n l is = (bytes_eq-Decides n l).0 (sym (is_eq-slice_cmp n l) ∙ ap is_eq is)

each-at : (P : List ℕ → Data → Type 0) (o : Ordering) (n l : List ℕ) (d e : Data) (ms : Members) → cmp n l ≡ o → P n d → P l e → EachMember P ms → EachMember P (put n d ms) → EachMember P (match_ordering o (member n d (member l e ms)) (member l d ms) (member l e (put n d ms)))
each-at P Less n l d e ms is here there rest later = (here, (there, rest))
each-at P Equal n l d e ms is here there rest later = (subst (λ (own : List ℕ). P own d) (same-name n l is) here, rest)
each-at P Greater n l d e ms is here there rest later = (there, later)

-- what holds of each member and of one that is put in holds of all
pub each-put : (P : List ℕ → Data → Type 0) (n : List ℕ) (d : Data) (ms : Members) → P n d → EachMember P ms → EachMember P (put n d ms)
each-put P n d no_members here rest = (here, tt)
each-put P n d (member l e ms) here rest = each-at P (cmp n l) n l d e ms refl here rest.0 rest.1 (each-put P n d ms here rest.1)

-- ---- rising names

abbrev IsBelow : List ℕ → Members → Type 0
IsBelow l ms = EachMember (λ n d. cmp l n ≡ Less) ms

turned : (n l : List ℕ) → cmp n l ≡ Greater → cmp l n ≡ Less
turned n l is = nat_list_cmp_total.antisymm l n ∙ ap ordering_reverse is

turned-back : (l n : List ℕ) → cmp l n ≡ Less → cmp n l ≡ Greater
turned-back l n is = nat_list_cmp_total.antisymm n l ∙ ap ordering_reverse is

below-more : (n l : List ℕ) (ms : Members) → cmp n l ≡ Less → IsBelow l ms → IsBelow n ms
below-more n l no_members less below = tt
below-more n l (member m d ms) less below = (nat_list_cmp_total.trans n l m less below.0, below-more n l ms less below.1)

rising-at : (o : Ordering) (n l : List ℕ) (d e : Data) (ms : Members) → cmp n l ≡ o → NamesRise (member l e ms) → NamesRise (put n d ms) → NamesRise (match_ordering o (member n d (member l e ms)) (member l d ms) (member l e (put n d ms)))
rising-at Less n l d e ms is rising later = ((is, below-more n l ms is rising.0), rising)
rising-at Equal n l d e ms is rising later = rising
rising-at Greater n l d e ms is rising later = (each-put (λ m c. cmp l m ≡ Less) n d ms (turned n l is) rising.0, later)

-- names rise still where a member is put in
pub rising-put : (n : List ℕ) (d : Data) (ms : Members) → NamesRise ms → NamesRise (put n d ms)
rising-put n d no_members rising = (tt, tt)
rising-put n d (member l e ms) rising = rising-at (cmp n l) n l d e ms refl rising (rising-put n d ms rising.1)

-- ---- members that are put in one after another

abbrev pub joined : Members → Members → Members
joined found no_members = found
joined found (member l d ms) = joined (put l d found) ms

abbrev behind : Members → Members → Members
behind no_members ms = ms
behind (member l d done) ms = member l d (behind done ms)

behind-none : (done : Members) → behind done no_members ≡ done
behind-none no_members = refl
behind-none (member l d done) = ap (member l d) (behind-none done)

behind-behind : (done : Members) (n : List ℕ) (d : Data) (ms : Members) → behind (behind done (member n d no_members)) ms ≡ behind done (member n d ms)
behind-behind no_members n d ms = refl
behind-behind (member l e done) n d ms = ap (member l e) (behind-behind done n d ms)

-- the name is above those that are done
abbrev IsAbove : Members → List ℕ → Type 0
IsAbove done n = EachMember (λ l d. cmp l n ≡ Less) done

put-last : (done : Members) (n : List ℕ) (d : Data) → IsAbove done n → put n d done ≡ behind done (member n d no_members)
put-last no_members n d above = refl
put-last (member l e done) n d above = rw (turned-back l n above.0) (ap (member l e) (put-last done n d above.1))

above-behind : (done : Members) (n : List ℕ) (d : Data) (m : List ℕ) → IsAbove done m → cmp n m ≡ Less → IsAbove (behind done (member n d no_members)) m
above-behind no_members n d m above less = (less, tt)
above-behind (member l e done) n d m above less = (above.0, above-behind done n d m above.1 less)

-- each of the members is above those that are done
abbrev AllAbove : Members → Members → Type 0
AllAbove done ms = EachMember (λ n d. IsAbove done n) ms

all-behind : (done : Members) (n : List ℕ) (d : Data) (ms : Members) → AllAbove done ms → IsBelow n ms → AllAbove (behind done (member n d no_members)) ms
all-behind done n d no_members above rising = tt
all-behind done n d (member m e ms) above rising = (above-behind done n d m above.0 rising.0, all-behind done n d ms above.1 rising.1)

joined-behind : (done ms : Members) → AllAbove done ms → NamesRise ms → joined done ms ≡ behind done ms
joined-behind done no_members above rising = sym (behind-none done)
joined-behind done (member n d ms) above rising =
    ap (λ (found : Members). joined found ms) (put-last done n d above.0)
    ∙ joined-behind (behind done (member n d no_members)) ms (all-behind done n d ms above.1 rising.0) rising.1
    ∙ behind-behind done n d ms

all-above-none : (ms : Members) → AllAbove no_members ms
all-above-none no_members = tt
all-above-none (member n d ms) = (tt, all-above-none ms)

-- members whose names rise, put in one after another, are those members
pub joined-rising : (ms : Members) → NamesRise ms → joined no_members ms ≡ ms
joined-rising ms rising = joined-behind no_members ms (all-above-none ms) rising
