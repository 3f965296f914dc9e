-- Unit propagation: its steps, and that nothing is left to derive at its end.
use Rattle.std.proofs.Common.{◌≡◌, ℕ, ◌<◌, ◌≤◌, ◌+◌, List, [], ◌∷◌, ◌++◌, length, take, drop, get_or, zero, suc, Bool, true, false, not, Option, Some, None, ◌⊎◌, inl, inr, refl, sym, ap, subst, ◌∙◌, arith, slice_get, nat_eq, append_assoc, append-nil}
use Rattle.std.specs.List.{Contains}
use Rattle.std.proofs.lemmas.List.{take_more, take_all, take-append-le, take-append-drop}
use Rattle.std.proofs.lemmas.Option.{slice_get_within, get_or_from_slice_get, slice_get-get_or}
use Rattle.std.proofs.lemmas.Bool.{cases_Bool, cases_lt}
use Rattle.std.proofs.lemmas.Bool.Decides.{nat_tests}
use Rattle.std.proofs.lemmas.List.Elements.{Contains-append_cases}
use Rattle.formula_tree.specs.Answers.{Answers, answer_of, Contained}
use Rattle.formula_tree.proofs.Laws.{answer_of-more, answer_of-rest, answer_of-last, cases_eq}
use Rattle.cnf_clauses.specs.declared.clause.Found.TheVariants.{Refuted, Unit}
use Rattle.cnf_clauses.specs.Literals.{Clause, Literal, IsTrueUnder, IsFalseUnder, IsUndecided, IsRefuted, IsUnit}
use Rattle.cnf_clauses.specs.Found.{IsOpen, FindsAt}
use Rattle.cnf_clauses.specs.Indexes.{HasTwoLiterals, NameHolding}
use Rattle.cnf_clauses.specs.Replays.{Replays, refuted, derives}
use Rattle.cnf_clauses.specs.Propagates.{HintsLead, GoesOn, Steps, IsQuiet, AreQuiet}
use Rattle.cnf_clauses.proofs.Hinting.{true-false, undecided-false, found-refuted, found-unit, same_clause}
use Rattle.cnf_clauses.proofs.Scanning.{pair_eq}

-- ---- one clause

pub settle-refuted : (cs : List Clause) (d : Answers) (h new : List ℕ) (n : ℕ) → FindsAt cs d n Refuted → new ≡ h ++ n ∷ [] → (path : Answers) → HintsLead cs path h d → Replays cs path new
settle-refuted cs d h new n f e path leads =
    let (c, there, all) = found-refuted cs d n f in
    rw e (leads (n ∷ []) (refuted d n c there all))

pub settle-unit : (cs : List Clause) (d newd : Answers) (h newh : List ℕ) (n v : ℕ) (b : Bool) → FindsAt cs d n (Unit v b) → newh ≡ h ++ n ∷ [] → newd ≡ d ++ (v, b) ∷ [] → GoesOn cs h d newh newd
settle-unit cs d newd h newh n v b f e g =
    let (c, there, u) = found-unit cs d n v b f in
    record {
      leads = λ path leads rest r.
          let after : Replays cs (d ++ (v, b) ∷ []) rest = rw g at r in
          rw (e, append_assoc h (n ∷ []) rest) (leads (n ∷ rest) (derives d n rest c (v, b) there u after));
      added = (v, b) ∷ [];
      grows = g;
    }

pub settle-open : (cs : List Clause) (d newd : Answers) (n v : ℕ) (b : Bool) → FindsAt cs d n (Unit v b) → newd ≡ d ++ (v, b) ∷ [] → (c : Clause) → slice_get cs n ≡ Some c → IsOpen newd c
settle-open cs d newd n v b f g c at_c =
    let (x, there, u) = found-unit cs d n v b f in
    let stands : Contains c (v, b) = subst (λ (y : Clause). Contains y (v, b)) (same_clause (slice_get cs n) x c there at_c) u.stands in
    inl ((v, b), stands, rw g (answer_of-last d v b u.undecided))

-- ---- steps one after another

pub goes-same : (cs : List Clause) (h : List ℕ) (d : Answers) → GoesOn cs h d h d
goes-same cs h d = record { leads = λ path leads. leads; added = []; grows = sym (append-nil d) }

pub goes-on : (cs : List Clause) (h1 h2 h3 : List ℕ) (d1 d2 d3 : Answers) → GoesOn cs h1 d1 h2 d2 → GoesOn cs h2 d2 h3 d3 → GoesOn cs h1 d1 h3 d3
goes-on cs h1 h2 h3 d1 d2 d3 first second = record {
  leads = λ path leads. second.leads path (first.leads path leads);
  added = first.added ++ second.added;
  grows = second.grows ∙ rw (first.grows, append_assoc d1 first.added second.added) refl;
}

pub goes-conflict : (cs : List Clause) (h1 h2 h3 : List ℕ) (d1 d2 d3 : Answers) (met : Bool) → GoesOn cs h1 d1 h2 d2 → Steps cs h2 d2 h3 d3 met → met ≡ true → (path : Answers) → HintsLead cs path h1 d1 → Replays cs path h3
goes-conflict cs h1 h2 h3 d1 d2 d3 met first second e path leads =
    let now : Steps cs h2 d2 h3 d3 true = subst (λ (x : Bool). Steps cs h2 d2 h3 d3 x) e second in
    now path (first.leads path leads)

pub goes-further : (cs : List Clause) (h1 h2 h3 : List ℕ) (d1 d2 d3 : Answers) (met : Bool) → GoesOn cs h1 d1 h2 d2 → Steps cs h2 d2 h3 d3 met → met ≡ false → GoesOn cs h1 d1 h3 d3
goes-further cs h1 h2 h3 d1 d2 d3 met first second e =
    let now : GoesOn cs h2 d2 h3 d3 = subst (λ (x : Bool). Steps cs h2 d2 h3 d3 x) e second in
    goes-on cs h1 h2 h3 d1 d2 d3 first now

pub steps-is : (cs : List Clause) (h1 h2 : List ℕ) (d1 d2 : Answers) (met b : Bool) → Steps cs h1 d1 h2 d2 met → met ≡ b → Steps cs h1 d1 h2 d2 b
steps-is cs h1 h2 d1 d2 met b h e = subst (λ (x : Bool). Steps cs h1 d1 h2 d2 x) e h

pub steps-on : (cs : List Clause) (h1 h2 h3 : List ℕ) (d1 d2 d3 : Answers) (met : Bool) → GoesOn cs h1 d1 h2 d2 → Steps cs h2 d2 h3 d3 met → Steps cs h1 d1 h3 d3 met
steps-on cs h1 h2 h3 d1 d2 d3 true first next = goes-conflict cs h1 h2 h3 d1 d2 d3 true first next refl
steps-on cs h1 h2 h3 d1 d2 d3 false first next = goes-on cs h1 h2 h3 d1 d2 d3 first next

pub grown : (cs : List Clause) (h1 h2 : List ℕ) (d1 d2 : Answers) (met : Bool) → Steps cs h1 d1 h2 d2 met → met ≡ false → (more : Answers) × (d2 ≡ d1 ++ more)
grown cs h1 h2 d1 d2 met steps e =
    let now : GoesOn cs h1 d1 h2 d2 = subst (λ (x : Bool). Steps cs h1 d1 h2 d2 x) e steps in
    (now.added, now.grows)

-- ---- quiet clauses

pub quiet-grows : (before d more : Answers) (c : Clause) → IsQuiet before d c → IsQuiet before (d ++ more) c
quiet-grows before d more c (inl (m, h, t)) = inl (m, h, answer_of-more d more m.0 m.1 t)
quiet-grows before d more c (inr two) = inr two

-- what is undecided now wasn't false before
not-false-before : (before more : Answers) (m : Literal) → IsUndecided (before ++ more) m → IsFalseUnder before m → ⊥
not-false-before before more m u f = undecided-false (before ++ more) m u (answer_of-more before more m.0 (not m.1) f)

pub open-quiet : (before more : Answers) (c : Clause) → IsOpen (before ++ more) c → IsQuiet before (before ++ more) c
open-quiet before more c (inl t) = inl t
open-quiet before more c (inr (m, n, h, k, x, y, ne)) = inr (m, n, h, k, ne, not-false-before before more m x, not-false-before before more n y)

pub nothing-false : (m : Literal) → IsFalseUnder [] m → ⊥
nothing-false m f = absurd (cc)

pub literals-quiet : (d : Answers) (c : Clause) → HasTwoLiterals c → IsQuiet [] d c
literals-quiet d c (m, n, h, k, ne) = inr (m, n, h, k, ne, nothing-false m, nothing-false n)

-- fewer variables decided before
pub quiet-less : (before more d : Answers) (c : Clause) → IsQuiet (before ++ more) d c → IsQuiet before d c
quiet-less before more d c (inl t) = inl t
quiet-less before more d c (inr (m, n, h, k, ne, x, y)) =
    inr (m, n, h, k, ne, λ f. x (answer_of-more before more m.0 (not m.1) f), λ f. y (answer_of-more before more n.0 (not n.1) f))

-- what a newly decided variable makes false
pub cases_option : (o : Option Bool) → (o ≡ None) ⊎ ((b : Bool) × (o ≡ Some b))
cases_option None = inl refl
cases_option (Some b) = inr (b, refl)

not_not : (b c : Bool) → b ≡ not c → c ≡ not b
not_not true c e = grind arith
not_not false c e = grind arith

single_false : (v : ℕ) (b : Bool) (m : Literal) → answer_of ((v, b) ∷ []) m.0 ≡ Some (not m.1) → m ≡ (v, not b)
single_false v b m f =
    elim (cases_Bool (nat_eq v m.0)) [
      | inl e ↦
          let here : Some b ≡ Some (not m.1) = (rw e at f) in
          let value : b ≡ not m.1 = cc in
          let number : v ≡ m.0 = grind (arith, nat_tests) in
          pair_eq m (v, not b) (sym number) (not_not b m.1 value)
      | inr e ↦ let bad : None ≡ Some (not m.1) = (rw e at f) in absurd (cc)
    ]

new-false : (before : Answers) (v : ℕ) (b : Bool) (m : Literal) → (m ≡ (v, not b) → ⊥) → (IsFalseUnder before m → ⊥) → IsFalseUnder (before ++ (v, b) ∷ []) m → ⊥
new-false before v b m ne old f =
    elim (cases_option (answer_of before m.0)) [
      | inl e ↦ ne (single_false v b m (sym (answer_of-rest before ((v, b) ∷ []) m.0 e) ∙ f))
      | inr (x, e) ↦ old (e ∙ sym (answer_of-more before ((v, b) ∷ []) m.0 x e) ∙ f)
    ]

same_bool : (a b : Bool) → (a ≡ b) ⊎ (a ≡ b → ⊥)
same_bool true true = inl refl
same_bool true false = inr (λ e. absurd (cc))
same_bool false true = inr (λ e. absurd (cc))
same_bool false false = inl refl

same_literal : (m n : Literal) → (m ≡ n) ⊎ (m ≡ n → ⊥)
same_literal m n =
    elim (cases_eq m.0 n.0) [
      | inl e ↦ elim (same_bool m.1 n.1) [ inl f ↦ inl (pair_eq m n e f) | inr ne ↦ inr (λ g. ne (ap (λ (x : Literal). x.1) g)) ]
      | inr ne ↦ inr (λ g. ne (ap (λ (x : Literal). x.0) g))
    ]

-- a clause stays quiet when one more variable has been followed
pub quiet-step : (before d more : Answers) (v : ℕ) (b : Bool) (rest : Answers) (c : Clause) → d ≡ (before ++ (v, b) ∷ []) ++ rest → IsQuiet before d c →
    (Contains c (v, not b) → IsQuiet d (d ++ more) c) → IsQuiet (before ++ (v, b) ∷ []) (d ++ more) c
quiet-step before d more v b rest c e (inl (m, h, t)) followed = inl (m, h, answer_of-more d more m.0 m.1 t)
quiet-step before d more v b rest c e (inr (m, n, h, k, ne, x, y)) followed =
    elim (same_literal m (v, not b)) [
      | inl here ↦ quiet-less (before ++ (v, b) ∷ []) rest (d ++ more) c (subst (λ (z : Answers). IsQuiet z (d ++ more) c) e (followed (subst (λ (z : Literal). Contains c z) here h)))
      | inr apart ↦ elim (same_literal n (v, not b)) [
        | inl here ↦ quiet-less (before ++ (v, b) ∷ []) rest (d ++ more) c (subst (λ (z : Answers). IsQuiet z (d ++ more) c) e (followed (subst (λ (z : Literal). Contains c z) here k)))
        | inr also ↦ inr (m, n, h, k, ne, new-false before v b m apart x, new-false before v b n also y)
      ]
    ]

-- ---- at the end no hints replay

refuted-quiet : (d : Answers) (c : Clause) → IsRefuted d c → IsQuiet d d c → ⊥
refuted-quiet d c all (inl (m, h, t)) = true-false d m t (all m h)
refuted-quiet d c all (inr (m, n, h, k, ne, x, y)) = x (all m h)

pub false-in : (p d : Answers) (m : Literal) → Contained p d → IsFalseUnder p m → IsFalseUnder d m
false-in p d m inside f = inside m.0 (not m.1) f

refuted-in : (p d : Answers) (c : Clause) → Contained p d → IsRefuted p c → IsRefuted d c
refuted-in p d c inside all m h = false-in p d m inside (all m h)

-- a unit literal is true already
unit-true : (p d : Answers) (c : Clause) (l : Literal) → Contained p d → IsUnit p c l → IsQuiet d d c → IsTrueUnder d l
unit-true p d c l inside u (inl (m, h, t)) =
    elim (u.others m h) [ inl e ↦ rw e at t | inr f ↦ absurd (true-false d m t (false-in p d m inside f)) ]
unit-true p d c l inside u (inr (m, n, h, k, ne, x, y)) =
    elim (u.others m h) [
      | inl e ↦ elim (u.others n k) [ inl g ↦ absurd (ne (e ∙ sym g)) | inr f ↦ absurd (y (false-in p d n inside f)) ]
      | inr f ↦ absurd (x (false-in p d m inside f))
    ]

single_true : (d : Answers) (l : Literal) (n : ℕ) (b : Bool) → IsTrueUnder d l → answer_of (l ∷ []) n ≡ Some b → answer_of d n ≡ Some b
single_true d l n b t h =
    elim (cases_Bool (nat_eq l.0 n)) [
      | inl e ↦
          let here : Some l.1 ≡ Some b = (rw e at h) in
          let number : l.0 ≡ n = grind (arith, nat_tests) in
          subst (λ (x : ℕ). answer_of d x ≡ Some b) number (t ∙ here)
      | inr e ↦ let bad : None ≡ Some b = (rw e at h) in absurd (cc)
    ]

pub contained-more : (p d : Answers) (l : Literal) → Contained p d → IsTrueUnder d l → Contained (p ++ l ∷ []) d
contained-more p d l inside t n b h =
    elim (cases_option (answer_of p n)) [
      | inl e ↦
          let here : answer_of (l ∷ []) n ≡ Some b = sym (answer_of-rest p (l ∷ []) n e) ∙ h in
          single_true d l n b t here
      | inr (x, e) ↦
          let same : Some x ≡ Some b = sym (answer_of-more p (l ∷ []) n x e) ∙ h in
          let also : x ≡ b = cc in
          inside n b (e ∙ ap (λ (z : Bool). Some z) also)
    ]

pub quiet-ends : (cs : List Clause) (d : Answers) → AreQuiet cs d d → (p : Answers) (hs : List ℕ) → Contained p d → Replays cs p hs → ⊥
quiet-ends cs d quiet p hs inside (refuted p1 n c there all) = refuted-quiet d c (refuted-in p d c inside all) (quiet n c there)
quiet-ends cs d quiet p hs inside (derives p1 n rest c l there u more) =
    quiet-ends cs d quiet (p ++ l ∷ []) rest (contained-more p d l inside (unit-true p d c l inside u (quiet n c there))) more

-- ---- loops over clauses

only : {X : Type 0} → (y x : X) → Contains (y ∷ []) x → x ≡ y
only y x (zero, h, e) = sym e
only y x (suc k, h, e) = absurd (omega arith)

pub in_last : {X : Type 0} → (xs : List X) (y x : X) → Contains (xs ++ y ∷ []) x → Contains xs x ⊎ (x ≡ y)
in_last xs y x h = elim (Contains-append_cases xs (y ∷ []) x h) [ inl a ↦ inl a | inr b ↦ inr (only y x b) ]

-- one more clause has been looked at
pub number-step : (cs : List Clause) (before more : Answers) (h0 h new : List ℕ) (d0 d newd : Answers) (numbers : List ℕ) (k dflt : ℕ) (met : Bool) → d0 ≡ before ++ more → k < length numbers →
    GoesOn cs h0 d0 h d × ((i : ℕ) → Contains (take k numbers) i → (c : Clause) → slice_get cs i ≡ Some c → IsQuiet before d c) →
    Steps cs h d new newd met → met ≡ false → (met ≡ false → (c : Clause) → slice_get cs (get_or numbers k dflt) ≡ Some c → IsOpen newd c) →
    GoesOn cs h0 d0 new newd × ((i : ℕ) → Contains (take (k + 1) numbers) i → (c : Clause) → slice_get cs i ≡ Some c → IsQuiet before newd c)
number-step cs before more h0 h new d0 d newd numbers k dflt met start room old steps e settled =
    let all : GoesOn cs h0 d0 new newd = goes-further cs h0 h new d0 d newd met old.0 steps e in
    let whole : newd ≡ before ++ (more ++ all.added) = all.grows ∙ ap (λ (x : Answers). x ++ all.added) start ∙ append_assoc before more all.added in (
      all,
      λ i stands c there.
          let (step, grows) = grown cs h new d newd met steps e in
          elim (in_last (take k numbers) (get_or numbers k dflt) i (rw (take_more numbers k dflt room) at stands)) [
            | inl seen ↦ subst (λ (x : Answers). IsQuiet before x c) (sym grows) (quiet-grows before d step c (old.1 i seen c there))
            | inr now ↦
                let opened : IsOpen newd c = settled e c (subst (λ (x : ℕ). slice_get cs x ≡ Some c) now there) in
                subst (λ (x : Answers). IsQuiet before x c) (sym whole) (open-quiet before (more ++ all.added) c (subst (λ (x : Answers). IsOpen x c) whole opened))
          ],
    )

pub short-all : (cs : List Clause) (d : Answers) (numbers : List ℕ) (k : ℕ) → length numbers ≤ k →
    ((i : ℕ) (c : Clause) → slice_get cs i ≡ Some c → HasTwoLiterals c ⊎ Contains numbers i) →
    ((i : ℕ) → Contains (take k numbers) i → (c : Clause) → slice_get cs i ≡ Some c → IsQuiet [] d c) → AreQuiet cs [] d
short-all cs d numbers k past listed old i c there =
    elim (listed i c there) [
      | inl two ↦ literals-quiet d c two
      | inr stands ↦ old i (subst (λ (x : List ℕ). Contains x i) (sym (take_all k numbers past)) stands) c there
    ]

pub held-all : (cs : List Clause) (d0 d : Answers) (numbers : List ℕ) (k : ℕ) (l : Literal) → length numbers ≤ k → NameHolding cs l numbers →
    ((i : ℕ) → Contains (take k numbers) i → (c : Clause) → slice_get cs i ≡ Some c → IsQuiet d0 d c) →
    (i : ℕ) (c : Clause) → slice_get cs i ≡ Some c → Contains c l → IsQuiet d0 d c
held-all cs d0 d numbers k l past listed old i c there stands =
    let w = listed i c there stands in
    old w.0 (subst (λ (x : List ℕ). Contains x w.0) (sym (take_all k numbers past)) w.1) c w.2

-- one more decided variable has been followed
take_next : (d more newd : Answers) (k v : ℕ) (b : Bool) → slice_get d k ≡ Some (v, b) → newd ≡ d ++ more → take (k + 1) newd ≡ take k d ++ (v, b) ∷ []
take_next d more newd k v b here grows =
    let room : k < length d = slice_get_within d k (v, b) here in
    let within : k + 1 ≤ length d = omega arith in
    let item : get_or d k (v, b) ≡ (v, b) = get_or_from_slice_get d k (v, b) (v, b) here in
    ap (λ (x : Answers). take (k + 1) x) grows ∙ take-append-le (k + 1) d more within ∙ take_more d k (v, b) room ∙ ap (λ (x : Literal). take k d ++ x ∷ []) item

pub next-step : (cs : List Clause) (h0 h new : List ℕ) (d0 d newd : Answers) (k v : ℕ) (b met : Bool) → Some (v, b) ≡ slice_get d k →
    GoesOn cs h0 d0 h d × AreQuiet cs (take k d) d → Steps cs h d new newd met → met ≡ false →
    (met ≡ false → (i : ℕ) (c : Clause) → slice_get cs i ≡ Some c → Contains c (v, not b) → IsQuiet d newd c) →
    GoesOn cs h0 d0 new newd × AreQuiet cs (take (k + 1) newd) newd
next-step cs h0 h new d0 d newd k v b met read old steps e followed = (
  goes-further cs h0 h new d0 d newd met old.0 steps e,
  λ i c there.
      let (more, grows) = grown cs h new d newd met steps e in
      let here : slice_get d k ≡ Some (v, b) = sym read in
      let front : take (k + 1) d ≡ take k d ++ (v, b) ∷ [] = take_next d [] d k v b here (sym (append-nil d)) in
      let whole : d ≡ (take k d ++ (v, b) ∷ []) ++ drop (k + 1) d = subst (λ (x : Answers). d ≡ x ++ drop (k + 1) d) front (sym (take-append-drop (k + 1) d)) in
      let quiet : IsQuiet (take k d ++ (v, b) ∷ []) (d ++ more) c =
      quiet-step (take k d) d more v b (drop (k + 1) d) c whole (old.1 i c there) (λ stands. subst (λ (x : Answers). IsQuiet d x c) grows (followed e i c there stands)) in
      let moved : IsQuiet (take k d ++ (v, b) ∷ []) newd c = subst (λ (x : Answers). IsQuiet (take k d ++ (v, b) ∷ []) x c) (sym grows) quiet in
      subst (λ (x : Answers). IsQuiet x newd c) (sym (take_next d more newd k v b here grows)) moved,
)

pub next-all : (cs : List Clause) (d : Answers) (k : ℕ) → length d ≤ k → AreQuiet cs (take k d) d → AreQuiet cs d d
next-all cs d k past old = subst (λ (x : Answers). AreQuiet cs x d) (take_all k d past) old

pub none_past : (d : Answers) (k : ℕ) → None ≡ slice_get d k → length d ≤ k
none_past d k e = elim (cases_lt k (length d)) [ inl l ↦ (let some : slice_get d k ≡ Some (get_or d k (0, true)) = slice_get-get_or d k (0, true) l in absurd (cc)) | inr g ↦ g ]

pub no-replay : (cs : List Clause) (path d0 d1 : Answers) (h0 h1 : List ℕ) (met : Bool) → d0 ≡ path → Steps cs h0 d0 h1 d1 met → (met ≡ false → AreQuiet cs d1 d1) → met ≡ false → (hs : List ℕ) → Replays cs path hs → ⊥
no-replay cs path d0 d1 h0 h1 met start steps quiet none hs r =
    let (more, grows) = grown cs h0 h1 d0 d1 met steps none in
    let whole : d1 ≡ path ++ more = grows ∙ ap (λ (x : Answers). x ++ more) start in
    quiet-ends cs d1 (quiet none) path hs (λ n b h. subst (λ (x : Answers). answer_of x n ≡ Some b) (sym whole) (answer_of-more path more n b h)) r

-- from where nothing but the path is decided
pub met-replays : (cs : List Clause) (path d0 d1 : Answers) (h0 h1 : List ℕ) (met : Bool) → d0 ≡ path → h0 ≡ [] → Steps cs h0 d0 h1 d1 met → met ≡ true → Replays cs path h1
met-replays cs path d0 d1 h0 h1 met start none steps is =
    steps-is cs h0 h1 d0 d1 met true steps is path
    (λ rest r. subst (λ (hs : List ℕ). Replays cs path (hs ++ rest)) (sym none) (subst (λ (d : Answers). Replays cs d rest) start r))
