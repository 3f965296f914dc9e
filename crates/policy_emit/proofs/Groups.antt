-- Conditions by their operators: as the members of an element of conditions, and as the list in which they are read.
use Rattle.std.proofs.Common.{◌≡◌, ℕ, List, [], ◌∷◌, ◌++◌, Option, Some, None, Ordering, Less, Equal, Greater, nat_cmp, refl, ap, sym, subst, ◌∙◌}
use Rattle.std.specs.Cmp.Lexicographic.{slice_cmp}
use Rattle.std.specs.List.{flat_map}
use Rattle.std.specs.Ordering.{is_eq, match_ordering}
use Rattle.std.specs.Str.{encode_utf8_all}
use Rattle.std.proofs.lemmas.Cmp.{nat_list_cmp_total, tied_itself}
use Rattle.std.proofs.lemmas.Map.Text.{is_eq-slice_cmp}
use Rattle.std.proofs.lemmas.Slice.Eq.{bytes_eq-Decides}
use Rattle.serde_json.specs.Data.{Data, object, Members, no_members, member, put}
use Rattle.serde_json.specs.Find.{get_member}
use Rattle.json_shapes.specs.Spelled.{EachMember, NamesRise}
use Rattle.policy_model.specs.declared.operator.Condition.{Condition}
use Rattle.policy_json.specs.OperatorNames.{operator_text}
use Rattle.policy_emit.specs.Written.{members_in, operands_data, place_condition, with_condition}

abbrev pub cmp : List ℕ → List ℕ → Ordering
cmp = slice_cmp nat_cmp

pub same-name : (n l : List ℕ) → cmp n l ≡ Equal → n ≡ l
same-name n l is = (bytes_eq-Decides n l).0 (sym (is_eq-slice_cmp n l) ∙ ap is_eq is)

-- ---- groups

-- an operator's name, and the conditions under it
pub record Group : Type 0 where
  pub name : List ℕ
  pub own : List Condition

abbrev pub name_of_operator : Condition → List ℕ
name_of_operator c = operator_text c.operator

abbrev pub key_of : Condition → List ℕ
key_of c = encode_utf8_all c.written

abbrev pub key_members : List Condition → Members
key_members [] = no_members
key_members (c ∷ cs) = member (key_of c) (operands_data c.values) (key_members cs)

abbrev pub group_members : List Group → Members
group_members [] = no_members
group_members (g ∷ gs) = member g.name (object (key_members g.own)) (group_members gs)

abbrev pub conditions_among : List Group → List Condition
conditions_among gs = flat_map (λ g. g.own) gs

abbrev pub place_key : List Condition → Condition → List Condition
place_key [] c = c ∷ []
place_key (d ∷ ds) c = match_ordering (cmp (key_of c) (key_of d)) (c ∷ d ∷ ds) (c ∷ ds) (d ∷ place_key ds c)

abbrev pub group_of : Condition → Group
group_of c = record { name = name_of_operator c; own = c ∷ [] }

abbrev pub with_key : Group → Condition → Group
with_key g c = record { name = g.name; own = place_key g.own c }

abbrev pub place_group : List Group → Condition → List Group
place_group [] c = group_of c ∷ []
place_group (g ∷ gs) c = match_ordering (cmp (name_of_operator c) g.name) (group_of c ∷ g ∷ gs) (with_key g c ∷ gs) (g ∷ place_group gs c)

-- ---- a key is put among keys

key-at : (o : Ordering) (c d : Condition) (ds : List Condition) → cmp (key_of c) (key_of d) ≡ o → put (key_of c) (operands_data c.values) (key_members ds) ≡ key_members (place_key ds c) →
    match_ordering o (member (key_of c) (operands_data c.values) (key_members (d ∷ ds))) (member (key_of d) (operands_data c.values) (key_members ds)) (member (key_of d) (operands_data d.values) (put (key_of c) (operands_data c.values) (key_members ds)))
    ≡ key_members (match_ordering o (c ∷ d ∷ ds) (c ∷ ds) (d ∷ place_key ds c))
key-at Less c d ds is later = refl
key-at Equal c d ds is later = ap (λ (n : List ℕ). member n (operands_data c.values) (key_members ds)) (sym (same-name (key_of c) (key_of d) is))
key-at Greater c d ds is later = ap (member (key_of d) (operands_data d.values)) later

put-key : (c : Condition) (ds : List Condition) → put (key_of c) (operands_data c.values) (key_members ds) ≡ key_members (place_key ds c)
put-key c [] = refl
put-key c (d ∷ ds) = key-at (cmp (key_of c) (key_of d)) c d ds refl (put-key c ds)

-- ---- a condition is put among groups

-- what stands under a name that is below all others
below-none : (n : List ℕ) (ms : Members) → EachMember (λ l d. cmp n l ≡ Less) ms → get_member n ms ≡ None
below-none n no_members below = refl
below-none n (member l d ms) below = rw below.0 (below-none n ms below.1)

below-more : (n l : List ℕ) (ms : Members) → cmp n l ≡ Less → EachMember (λ m d. cmp l m ≡ Less) ms → EachMember (λ m d. cmp n m ≡ Less) ms
below-more n l no_members less below = tt
below-more n l (member m d ms) less below = (nat_list_cmp_total.trans n l m less below.0, below-more n l ms less below.1)

put-at : (o : Ordering) (c : Condition) (g : Group) (gs : List Group) → cmp (name_of_operator c) g.name ≡ o → NamesRise (group_members (g ∷ gs)) → with_condition (group_members gs) c ≡ group_members (place_group gs c) →
    match_ordering o
    (member (name_of_operator c) (object (put (key_of c) (operands_data c.values) (members_in (match_ordering o (get_member (name_of_operator c) (group_members gs)) (Some (object (key_members g.own))) (get_member (name_of_operator c) (group_members gs)))))) (group_members (g ∷ gs)))
    (member g.name (object (put (key_of c) (operands_data c.values) (members_in (match_ordering o (get_member (name_of_operator c) (group_members gs)) (Some (object (key_members g.own))) (get_member (name_of_operator c) (group_members gs)))))) (group_members gs))
    (member g.name (object (key_members g.own)) (put (name_of_operator c) (object (put (key_of c) (operands_data c.values) (members_in (match_ordering o (get_member (name_of_operator c) (group_members gs)) (Some (object (key_members g.own))) (get_member (name_of_operator c) (group_members gs)))))) (group_members gs)))
    ≡ group_members (match_ordering o (group_of c ∷ g ∷ gs) (with_key g c ∷ gs) (g ∷ place_group gs c))
put-at Less c g gs is rising later =
    let absent = below-none (name_of_operator c) (group_members gs) (below-more (name_of_operator c) g.name (group_members gs) is rising.0) in
    ap (λ (found : Option Data). member (name_of_operator c) (object (put (key_of c) (operands_data c.values) (members_in found))) (group_members (g ∷ gs))) absent
put-at Equal c g gs is rising later = ap (λ (ms : Members). member g.name (object ms) (group_members gs)) (put-key c g.own)
put-at Greater c g gs is rising later = ap (member g.name (object (key_members g.own))) later

pub put-group : (c : Condition) (gs : List Group) → NamesRise (group_members gs) → with_condition (group_members gs) c ≡ group_members (place_group gs c)
put-group c [] rising = refl
put-group c (g ∷ gs) rising = put-at (cmp (name_of_operator c) g.name) c g gs refl rising (put-group c gs rising.1)

-- ---- and among the conditions in their order

-- each of these conditions is of the operator
abbrev pub AreUnder : List ℕ → List Condition → Type 0
AreUnder name [] = Unit {0}
AreUnder name (c ∷ cs) = (name_of_operator c ≡ name) × AreUnder name cs

abbrev pub HasSome : List Condition → Type 0
HasSome [] = ⊥
HasSome (c ∷ cs) = Unit {0}

-- each group has conditions, which are of its operator
abbrev pub AreGroups : List Group → Type 0
AreGroups [] = Unit {0}
AreGroups (g ∷ gs) = (AreUnder g.name g.own × HasSome g.own) × AreGroups gs

under-at : (o : Ordering) (c d : Condition) (ds : List Condition) (name : List ℕ) → name_of_operator c ≡ name → AreUnder name (d ∷ ds) → AreUnder name (place_key ds c) → AreUnder name (match_ordering o (c ∷ d ∷ ds) (c ∷ ds) (d ∷ place_key ds c))
under-at Less c d ds name is under later = (is, under)
under-at Equal c d ds name is under later = (is, under.1)
under-at Greater c d ds name is under later = (under.0, later)

place-under : (c : Condition) (ds : List Condition) (name : List ℕ) → name_of_operator c ≡ name → AreUnder name ds → AreUnder name (place_key ds c)
place-under c [] name is under = (is, tt)
place-under c (d ∷ ds) name is under = under-at (cmp (key_of c) (key_of d)) c d ds name is under (place-under c ds name is under.1)

some-at : (o : Ordering) (c d : Condition) (ds : List Condition) → HasSome (match_ordering o (c ∷ d ∷ ds) (c ∷ ds) (d ∷ place_key ds c))
some-at Less c d ds = tt
some-at Equal c d ds = tt
some-at Greater c d ds = tt

place-some : (c : Condition) (ds : List Condition) → HasSome (place_key ds c)
place-some c [] = tt
place-some c (d ∷ ds) = some-at (cmp (key_of c) (key_of d)) c d ds

groups-at : (o : Ordering) (c : Condition) (g : Group) (gs : List Group) → cmp (name_of_operator c) g.name ≡ o → AreGroups (g ∷ gs) → AreGroups (place_group gs c) → AreGroups (match_ordering o (group_of c ∷ g ∷ gs) (with_key g c ∷ gs) (g ∷ place_group gs c))
groups-at Less c g gs is groups later = (((refl, tt), tt), groups)
groups-at Equal c g gs is groups later = ((place-under c g.own g.name (same-name (name_of_operator c) g.name is) groups.0.0, place-some c g.own), groups.1)
groups-at Greater c g gs is groups later = (groups.0, later)

pub place-groups : (c : Condition) (gs : List Group) → AreGroups gs → AreGroups (place_group gs c)
place-groups c [] groups = (((refl, tt), tt), tt)
place-groups c (g ∷ gs) groups = groups-at (cmp (name_of_operator c) g.name) c g gs refl groups (place-groups c gs groups.1)

-- a condition whose operator is below all of them goes first
first-place : (c d : Condition) (ds : List Condition) (name : List ℕ) → name_of_operator d ≡ name → cmp (name_of_operator c) name ≡ Less → place_condition (d ∷ ds) c ≡ c ∷ d ∷ ds
first-place c d ds name is less =
    let below : cmp (name_of_operator c) (name_of_operator d) ≡ Less = ap (cmp (name_of_operator c)) is ∙ less in
    rw below refl

below-place : (c : Condition) (own : List Condition) (name : List ℕ) (rest : List Condition) → AreUnder name own → HasSome own → cmp (name_of_operator c) name ≡ Less → place_condition (own ++ rest) c ≡ c ∷ (own ++ rest)
below-place c [] name rest under some less = absurd some
below-place c (d ∷ ds) name rest under some less = first-place c d (ds ++ rest) name under.0 less

-- the same of a condition whose operator is that of the groups before
front-place : (c : Condition) (gs : List Group) → AreGroups gs → EachMember (λ l d. cmp (name_of_operator c) l ≡ Less) (group_members gs) → place_condition (conditions_among gs) c ≡ c ∷ conditions_among gs
front-place c [] groups below = refl
front-place c (g ∷ gs) groups below = below-place c g.own g.name (conditions_among gs) groups.0.0 groups.0.1 below.0

key-place : (o : Ordering) (c d : Condition) (ds rest : List Condition) → place_key ds c ++ rest ≡ place_condition (ds ++ rest) c →
    match_ordering o (c ∷ d ∷ ds) (c ∷ ds) (d ∷ place_key ds c) ++ rest ≡ match_ordering o (c ∷ d ∷ (ds ++ rest)) (c ∷ (ds ++ rest)) (d ∷ place_condition (ds ++ rest) c)
key-place Less c d ds rest later = refl
key-place Equal c d ds rest later = refl
key-place Greater c d ds rest later = ap (λ (cs : List Condition). d ∷ cs) later

own-place : (c : Condition) (own : List Condition) (rest : List Condition) → AreUnder (name_of_operator c) own → place_condition rest c ≡ c ∷ rest → place_key own c ++ rest ≡ place_condition (own ++ rest) c
own-place c [] rest under front = sym front
own-place c (d ∷ ds) rest under front =
    let tied : cmp (name_of_operator c) (name_of_operator d) ≡ Equal = ap (cmp (name_of_operator c)) under.0 ∙ tied_self (name_of_operator c) in
    rw tied (key-place (cmp (key_of c) (key_of d)) c d ds rest (own-place c ds rest under.1 front))
  where
    tied_self : (n : List ℕ) → cmp n n ≡ Equal
    tied_self n = tied_itself nat_list_cmp_total n

past-place : (c : Condition) (own : List Condition) (name : List ℕ) (rest : List Condition) → AreUnder name own → cmp (name_of_operator c) name ≡ Greater → place_condition (own ++ rest) c ≡ own ++ place_condition rest c
past-place c [] name rest under greater = refl
past-place c (d ∷ ds) name rest under greater =
    let above : cmp (name_of_operator c) (name_of_operator d) ≡ Greater = ap (cmp (name_of_operator c)) under.0 ∙ greater in
    rw above (ap (λ (cs : List Condition). d ∷ cs) (past-place c ds name rest under.1 greater))

among-at : (o : Ordering) (c : Condition) (g : Group) (gs : List Group) → cmp (name_of_operator c) g.name ≡ o → NamesRise (group_members (g ∷ gs)) → AreGroups (g ∷ gs) → conditions_among (place_group gs c) ≡ place_condition (conditions_among gs) c →
    conditions_among (match_ordering o (group_of c ∷ g ∷ gs) (with_key g c ∷ gs) (g ∷ place_group gs c)) ≡ place_condition (conditions_among (g ∷ gs)) c
among-at Less c g gs is rising groups later = sym (below-place c g.own g.name (conditions_among gs) groups.0.0 groups.0.1 is)
among-at Equal c g gs is rising groups later =
    let same = same-name (name_of_operator c) g.name is in
    own-place c g.own (conditions_among gs) (subst (λ (n : List ℕ). AreUnder n g.own) (sym same) groups.0.0)
    (front-place c gs groups.1 (subst (λ (n : List ℕ). EachMember (λ l d. cmp n l ≡ Less) (group_members gs)) (sym same) rising.0))
among-at Greater c g gs is rising groups later = ap (λ (cs : List Condition). g.own ++ cs) later ∙ sym (past-place c g.own g.name (conditions_among gs) groups.0.0 is)

pub place-among : (c : Condition) (gs : List Group) → NamesRise (group_members gs) → AreGroups gs → conditions_among (place_group gs c) ≡ place_condition (conditions_among gs) c
place-among c [] rising groups = refl
place-among c (g ∷ gs) rising groups = among-at (cmp (name_of_operator c) g.name) c g gs refl rising groups (place-among c gs rising.1 groups.1)
