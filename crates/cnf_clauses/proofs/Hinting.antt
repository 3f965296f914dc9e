-- What one hint does to a replay.
use Rattle.std.proofs.Common.{◌≡◌, ℕ, ◌<◌, ◌≤◌, ◌+◌, List, [], ◌∷◌, ◌++◌, length, drop, get_or, zero, suc, Bool, true, false, not, Option, Some, None, inl, inr, refl, sym, subst, ◌∙◌, arith, slice_get, drop-cons, add-one, nat_eq, length-drop}
use Rattle.std.proofs.lemmas.Bool.Decides.{nat_tests}
use Rattle.std.specs.List.{Contains}
use Rattle.std.specs.Prelude.{MatchOption}
use Rattle.formula_tree.specs.Answers.{Answers}
use Rattle.cnf_clauses.specs.declared.clause.Found.TheVariants.{Refuted, Unit, Open}
use Rattle.cnf_clauses.specs.Literals.{Clause, Literal, IsTrueUnder, IsFalseUnder, IsUndecided, IsRefuted, IsUnit}
use Rattle.cnf_clauses.specs.Found.{IsOpen, Finds, FindsAt}
use Rattle.cnf_clauses.specs.Replays.{Replays, refuted, derives}

-- ---- a literal is true, false or undecided, and only one of them

not_both : (b : Bool) → b ≡ not b → ⊥
not_both true h = absurd (cc)
not_both false h = absurd (cc)

some_same : (a b : Bool) → Some a ≡ Some b → a ≡ b
some_same a b h = cc

pub true-false : (d : Answers) (m : Literal) → IsTrueUnder d m → IsFalseUnder d m → ⊥
true-false d m t f = not_both m.1 (some_same m.1 (not m.1) (sym t ∙ f))

pub undecided-false : (d : Answers) (m : Literal) → IsUndecided d m → IsFalseUnder d m → ⊥
undecided-false d m u f = let bad : None ≡ Some (not m.1) = sym u ∙ f in absurd (cc)

pub undecided-true : (d : Answers) (m : Literal) → IsUndecided d m → IsTrueUnder d m → ⊥
undecided-true d m u t = let bad : None ≡ Some m.1 = sym u ∙ t in absurd (cc)

-- ---- clauses

pub refuted-open : (d : Answers) (c : Clause) → IsRefuted d c → IsOpen d c → ⊥
refuted-open d c r (inl (m, h, t)) = true-false d m t (r m h)
refuted-open d c r (inr (m, n, h, k, x, y, ne)) = undecided-false d m x (r m h)

pub refuted-unit : (d : Answers) (c : Clause) (l : Literal) → IsRefuted d c → IsUnit d c l → ⊥
refuted-unit d c l r u = undecided-false d l u.undecided (r l u.stands)

pub unit-is : (d : Answers) (c : Clause) (l m : Literal) → IsUnit d c l → Contains c m → IsUndecided d m → m ≡ l
unit-is d c l m u h x = elim (u.others m h) [ inl e ↦ e | inr f ↦ absurd (undecided-false d m x f) ]

pub unit-open : (d : Answers) (c : Clause) (l : Literal) → IsUnit d c l → IsOpen d c → ⊥
unit-open d c l u (inl (m, h, t)) =
    elim (u.others m h) [ inl e ↦ undecided-true d l u.undecided (rw e at t) | inr f ↦ true-false d m t f ]
unit-open d c l u (inr (m, n, h, k, x, y, ne)) = ne (unit-is d c l m u h x ∙ sym (unit-is d c l n u k y))

-- ---- what is found found a number

at_refuted : (o : Option Clause) (d : Answers) → MatchOption o (Refuted ≡ Open) (λ c. Finds d c Refuted) → (c : Clause) × (o ≡ Some c) × IsRefuted d c
at_refuted None d h = absurd (cc)
at_refuted (Some c) d h = (c, refl, h)

at_unit : (o : Option Clause) (d : Answers) (v : ℕ) (b : Bool) → MatchOption o (Unit v b ≡ Open) (λ c. Finds d c (Unit v b)) → (c : Clause) × (o ≡ Some c) × IsUnit d c (v, b)
at_unit None d v b h = absurd (cc)
at_unit (Some c) d v b h = (c, refl, h)

at_open : (o : Option Clause) (d : Answers) (c : Clause) → MatchOption o (Open ≡ Open) (λ c. Finds d c Open) → o ≡ Some c → IsOpen d c
at_open None d c h e = absurd (cc)
at_open (Some x) d c h e = let same : x ≡ c = cc in subst (λ (y : Clause). IsOpen d y) same h

pub found-refuted : (cs : List Clause) (d : Answers) (n : ℕ) → FindsAt cs d n Refuted → (c : Clause) × (slice_get cs n ≡ Some c) × IsRefuted d c
found-refuted cs d n h = at_refuted (slice_get cs n) d h

pub found-unit : (cs : List Clause) (d : Answers) (n v : ℕ) (b : Bool) → FindsAt cs d n (Unit v b) → (c : Clause) × (slice_get cs n ≡ Some c) × IsUnit d c (v, b)
found-unit cs d n v b h = at_unit (slice_get cs n) d v b h

pub found-open : (cs : List Clause) (d : Answers) (n : ℕ) (c : Clause) → FindsAt cs d n Open → slice_get cs n ≡ Some c → IsOpen d c
found-open cs d n c h e = at_open (slice_get cs n) d c h e

pub same_clause : (o : Option Clause) (c d : Clause) → o ≡ Some c → o ≡ Some d → c ≡ d
same_clause o c d e f = let both : Some c ≡ Some d = sym e ∙ f in cc

-- ---- one hint

replay-open : (cs : List Clause) (d : Answers) (n : ℕ) (rest : List ℕ) → FindsAt cs d n Open → Replays cs d (n ∷ rest) → ⊥
replay-open cs d n rest h (refuted d1 n1 c found r) = refuted-open d c r (found-open cs d n c h found)
replay-open cs d n rest h (derives d1 n1 hs c l found u more) = unit-open d c l u (found-open cs d n c h found)

replay-refuted : (cs : List Clause) (d : Answers) (n : ℕ) (rest : List ℕ) → FindsAt cs d n Refuted → Replays cs d (n ∷ rest) → rest ≡ []
replay-refuted cs d n rest h (refuted d1 n1 c found r) = refl
replay-refuted cs d n rest h (derives d1 n1 hs c l found u more) =
    let (x, there, all) = found-refuted cs d n h in
    absurd (refuted-unit d c l (subst (λ (y : Clause). IsRefuted d y) (same_clause (slice_get cs n) x c there found) all) u)

replay-unit : (cs : List Clause) (d : Answers) (n v : ℕ) (b : Bool) (rest : List ℕ) → FindsAt cs d n (Unit v b) → Replays cs d (n ∷ rest) → Replays cs (d ++ (v, b) ∷ []) rest
replay-unit cs d n v b rest h (refuted d1 n1 c found r) =
    let (x, there, u) = found-unit cs d n v b h in
    absurd (refuted-unit d c (v, b) r (subst (λ (y : Clause). IsUnit d y (v, b)) (same_clause (slice_get cs n) x c there found) u))
replay-unit cs d n v b rest h (derives d1 n1 hs c l found u more) =
    let (x, there, w) = found-unit cs d n v b h in
    let wc : IsUnit d c (v, b) = subst (λ (y : Clause). IsUnit d y (v, b)) (same_clause (slice_get cs n) x c there found) w in
    let same : l ≡ (v, b) = unit-is d c (v, b) l wc u.stands u.undecided in
    subst (λ (m : Literal). Replays cs (d ++ m ∷ []) rest) same more

-- ---- a replay, hint after hint: the hints replay from the path exactly where the rest replays from what is decided

pub record Alike (cs : List Clause) (p : Answers) (hs : List ℕ) (d : Answers) (rest : List ℕ) : Type 0 where
  pub to : Replays cs p hs → Replays cs d rest
  pub from : Replays cs d rest → Replays cs p hs

drop_here : (hs : List ℕ) (i n : ℕ) → i < length hs → n ≡ get_or hs i 0 → drop i hs ≡ n ∷ drop (i + 1) hs
drop_here hs i n h e = rw (add-one, e) (drop-cons hs i 0 h)

at_here : (cs : List Clause) (p : Answers) (hs : List ℕ) (d : Answers) (i n : ℕ) → i < length hs → n ≡ get_or hs i 0 → Alike cs p hs d (drop i hs) → Alike cs p hs d (n ∷ drop (i + 1) hs)
at_here cs p hs d i n h e a = subst (λ (x : List ℕ). Alike cs p hs d x) (drop_here hs i n h e) a

pub alike-unit : (cs : List Clause) (p : Answers) (hs : List ℕ) (d : Answers) (i n v : ℕ) (b : Bool) → i < length hs → n ≡ get_or hs i 0 → FindsAt cs d n (Unit v b) →
    Alike cs p hs d (drop i hs) → Alike cs p hs (d ++ (v, b) ∷ []) (drop (i + 1) hs)
alike-unit cs p hs d i n v b h e f a =
    let here : Alike cs p hs d (n ∷ drop (i + 1) hs) = at_here cs p hs d i n h e a in
    let (c, there, u) = found-unit cs d n v b f in
    record { to = λ r. replay-unit cs d n v b (drop (i + 1) hs) f (here.to r); from = λ r. here.from (derives d n (drop (i + 1) hs) c (v, b) there u r) }

pub alike-open : (cs : List Clause) (p : Answers) (hs : List ℕ) (d : Answers) (i n : ℕ) → i < length hs → n ≡ get_or hs i 0 → FindsAt cs d n Open →
    Alike cs p hs d (drop i hs) → Replays cs p hs → ⊥
alike-open cs p hs d i n h e f a r =
    let here : Alike cs p hs d (n ∷ drop (i + 1) hs) = at_here cs p hs d i n h e a in
    replay-open cs d n (drop (i + 1) hs) f (here.to r)

pub none-replay : (cs : List Clause) (d : Answers) (hs : List ℕ) → hs ≡ [] → Replays cs d hs → ⊥
none-replay cs d hs e (refuted d1 n1 c found r) = absurd (cc)
none-replay cs d hs e (derives d1 n1 rest c l found u more) = absurd (cc)

drop_past : (hs : List ℕ) (i : ℕ) → length hs ≤ i → drop i hs ≡ []
drop_past [] zero h = refl
drop_past [] (suc i) h = refl
drop_past (x ∷ xs) zero h = absurd (omega arith)
drop_past (x ∷ xs) (suc i) h = drop_past xs i (omega arith)

pub alike-end : (cs : List Clause) (p : Answers) (hs : List ℕ) (d : Answers) (i : ℕ) → length hs ≤ i → Alike cs p hs d (drop i hs) → Replays cs p hs → ⊥
alike-end cs p hs d i h a r = none-replay cs d (drop i hs) (drop_past hs i h) (a.to r)

empty_drop : (hs : List ℕ) (i : ℕ) → drop i hs ≡ [] → length hs ≤ i
empty_drop hs i e = let n : length (drop i hs) ≡ 0 = rw e refl in omega (arith, length-drop i hs)

pub alike-refuted : (cs : List Clause) (p : Answers) (hs : List ℕ) (d : Answers) (i n : ℕ) (last : Bool) → i < length hs → n ≡ get_or hs i 0 → FindsAt cs d n Refuted →
    last ≡ nat_eq (i + 1) (length hs) → Alike cs p hs d (drop i hs) → (last ≡ true → Replays cs p hs) × (Replays cs p hs → last ≡ true)
alike-refuted cs p hs d i n last h e f is a =
    let here : Alike cs p hs d (n ∷ drop (i + 1) hs) = at_here cs p hs d i n h e a in
    let (c, there, all) = found-refuted cs d n f in (
      λ yes_last.
          let at_end : i + 1 ≡ length hs = grind (arith, nat_tests) in
          let none : drop (i + 1) hs ≡ [] = drop_past hs (i + 1) (omega arith) in
          here.from (subst (λ (x : List ℕ). Replays cs d (n ∷ x)) (sym none) (refuted d n c there all)),
      λ r.
          let none : drop (i + 1) hs ≡ [] = replay-refuted cs d n (drop (i + 1) hs) f (here.to r) in
          let short : length hs ≤ i + 1 = empty_drop hs (i + 1) none in
          let at_end : i + 1 ≡ length hs = omega arith in
          is ∙ grind (arith, nat_tests),
    )
