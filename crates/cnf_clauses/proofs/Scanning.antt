-- What a look at a clause finds, literal by literal.
use Rattle.std.proofs.Common.{◌≡◌, ℕ, ◌<◌, ◌+◌, ◌≤◌, take-append-drop, [], ◌∷◌, ◌++◌, length, take, drop, get_or, zero, suc, Bool, true, false, not, ◌&&◌, Option, Some, None, ◌⊎◌, inl, inr, refl, sym, subst, arith, nat_eq}
use Rattle.std.specs.List.{Contains}
use Rattle.std.proofs.lemmas.List.{take_more, take_all}
use Rattle.std.proofs.lemmas.Bool.{cases_Bool, and_parts}
use Rattle.std.proofs.lemmas.Bool.Decides.{nat_tests}
use Rattle.std.proofs.lemmas.List.Elements.{Contains-append_left, Contains-append_cases, Contains-push}
use Rattle.formula_tree.specs.Answers.{Answers, answer_of}
use Rattle.cnf_clauses.specs.declared.clause.Found.{Found}
use Rattle.cnf_clauses.specs.declared.clause.Found.TheVariants.{Refuted, Unit, Open}
use Rattle.cnf_clauses.specs.Literals.{Clause, Literal, IsFalseUnder, IsUndecided, IsRefuted, IsUnit}
use Rattle.cnf_clauses.specs.Found.{IsOpen, Finds}
use Rattle.cnf_clauses.specs.Scan.{same_value, found_after_undecided, found_after}

-- ---- membership

pub single_is : (l m : Literal) → Contains (l ∷ []) m → m ≡ l
single_is l m (zero, h, e) = sym e
single_is l m (suc k, h, e) = absurd (omega arith)

pub in_more : (seen : Clause) (l m : Literal) → Contains (seen ++ l ∷ []) m → Contains seen m ⊎ (m ≡ l)
in_more seen l m h = elim (Contains-append_cases seen (l ∷ []) m h) [ inl a ↦ inl a | inr b ↦ inr (single_is l m b) ]

pub pair_eq : (l m : Literal) → l.0 ≡ m.0 → l.1 ≡ m.1 → l ≡ m
pair_eq (a, b) (c, d) e f = rw (e, f) refl

-- ---- values

pub same_is : (a b : Bool) → same_value a b ≡ true → a ≡ b
same_is true b h = sym h
same_is false true h = absurd (cc)
same_is false false h = refl

pub differs_is : (a b : Bool) → same_value a b ≡ false → a ≡ not b
differs_is true true h = absurd (cc)
differs_is true false h = refl
differs_is false true h = refl
differs_is false false h = absurd (cc)

same_self : (b : Bool) → same_value b b ≡ true
same_self true = refl
same_self false = refl

-- ---- what was found, with more literals

pub open-more : (d : Answers) (seen more : Clause) → IsOpen d seen → IsOpen d (seen ++ more)
open-more d seen more (inl (m, h, e)) = inl (m, Contains-append_left seen more m h, e)
open-more d seen more (inr (m, n, h, k, e, f, ne)) = inr (m, n, Contains-append_left seen more m h, Contains-append_left seen more n k, e, f, ne)

refuted-more : (d : Answers) (seen : Clause) (l : Literal) → IsRefuted d seen → IsFalseUnder d l → IsRefuted d (seen ++ l ∷ [])
refuted-more d seen l all here m h = elim (in_more seen l m h) [ inl a ↦ all m a | inr e ↦ rw e here ]

unit-more : (d : Answers) (seen : Clause) (l u : Literal) → IsUnit d seen u → (l ≡ u) ⊎ IsFalseUnder d l → IsUnit d (seen ++ l ∷ []) u
unit-more d seen l u unit here = record {
  stands = Contains-append_left seen (l ∷ []) u unit.stands;
  undecided = unit.undecided;
  others = λ m h. elim (in_more seen l m h) [ inl a ↦ unit.others m a | inr e ↦ rw e here ];
}

unit-first : (d : Answers) (seen : Clause) (l : Literal) → IsRefuted d seen → IsUndecided d l → IsUnit d (seen ++ l ∷ []) l
unit-first d seen l all here = record {
  stands = Contains-push seen l;
  undecided = here;
  others = λ m h. elim (in_more seen l m h) [ inl a ↦ inr (all m a) | inr e ↦ inl e ];
}

false-more : (d : Answers) (seen : Clause) (l : Literal) (found : Found) → IsFalseUnder d l → Finds d seen found → Finds d (seen ++ l ∷ []) found
false-more d seen l Refuted h f = refuted-more d seen l f h
false-more d seen l (Unit v b) h f = unit-more d seen l (v, b) f (inr h)
false-more d seen l Open h f = open-more d seen (l ∷ []) f

literal_test : (v : ℕ) (b : Bool) (l : Literal) → (nat_eq v l.0 && same_value b l.1) ≡ true → l ≡ (v, b)
literal_test v b l h =
    let parts : (nat_eq v l.0 ≡ true) × (same_value b l.1 ≡ true) = and_parts _ _ h in
    let same : b ≡ l.1 = same_is b l.1 parts.1 in
    let at : v ≡ l.0 = grind (arith, nat_tests) in
    pair_eq l (v, b) (sym at) (sym same)

literal_self : (v : ℕ) (b : Bool) → (nat_eq v v && same_value b b) ≡ true
literal_self v b = let s = same_self b in grind (arith, nat_tests)

literal_differs : (v : ℕ) (b : Bool) (l : Literal) → (nat_eq v l.0 && same_value b l.1) ≡ false → (v, b) ≡ l → ⊥
literal_differs v b l h e =
    let s : (nat_eq v v && same_value b b) ≡ true = literal_self v b in
    let t : (nat_eq v l.0 && same_value b l.1) ≡ true = subst (λ (x : Literal). (nat_eq v x.0 && same_value b x.1) ≡ true) e s in
    cc

undecided-more : (d : Answers) (seen : Clause) (l : Literal) (found : Found) → IsUndecided d l → Finds d seen found → Finds d (seen ++ l ∷ []) (found_after_undecided found l)
undecided-more d seen l Refuted h f = unit-first d seen l f h
undecided-more d seen l (Unit v b) h f =
    elim (cases_Bool (nat_eq v l.0 && same_value b l.1)) [
      | inl e ↦ rw e (unit-more d seen l (v, b) f (inl (literal_test v b l e)))
      | inr e ↦ rw e (inr ((v, b), l, Contains-append_left seen (l ∷ []) (v, b) f.stands, Contains-push seen l, f.undecided, h, literal_differs v b l e))
    ]
undecided-more d seen l Open h f = open-more d seen (l ∷ []) f

value-more : (d : Answers) (seen : Clause) (l : Literal) (found : Found) (value : Bool) → answer_of d l.0 ≡ Some value → Finds d seen found → Finds d (seen ++ l ∷ []) (found_after found l (Some value))
value-more d seen l found value h f =
    elim (cases_Bool (same_value value l.1)) [
      | inl e ↦ rw e (inl (l, Contains-push seen l, rw (same_is value l.1 e) at h))
      | inr e ↦ rw e (false-more d seen l found (rw (differs_is value l.1 e) at h) f)
    ]

noted-at : (d : Answers) (seen : Clause) (l : Literal) (found : Found) (value : Option Bool) → answer_of d l.0 ≡ value → Finds d seen found → Finds d (seen ++ l ∷ []) (found_after found l value)
noted-at d seen l found None h f = undecided-more d seen l found h f
noted-at d seen l found (Some value) h f = value-more d seen l found value h f

-- one more literal
pub noted-more : (d : Answers) (seen : Clause) (l : Literal) (found next : Found) → next ≡ found_after found l (answer_of d l.0) → Finds d seen found → Finds d (seen ++ l ∷ []) next
noted-more d seen l found next e f = rw e (noted-at d seen l found (answer_of d l.0) refl f)

pub nothing-found : (d : Answers) (m : Literal) → Contains [] m → IsFalseUnder d m
nothing-found d m (k, h, e) = absurd (omega arith)

-- one step of a look over a list of literals
pub look-step : (d : Answers) (lits : Clause) (i : ℕ) (dflt : Literal) (found next : Found) (value : Option Bool) → i < length lits → value ≡ answer_of d (get_or lits i dflt).0 →
    next ≡ found_after found (get_or lits i dflt) value → Finds d (take i lits) found → Finds d (take (i + 1) lits) next
look-step d lits i dflt found next value h read e f =
    rw (take_more lits i dflt h)
    (noted-more d (take i lits) (get_or lits i dflt) found next (rw (← read) e) f)

pub look-stop : (d : Answers) (lits : Clause) (i : ℕ) (found : Found) → found ≡ Open → Finds d (take i lits) found → IsOpen d lits
look-stop d lits i found e f =
    let open_ : IsOpen d (take i lits) = rw e at f in
    let whole : lits ≡ take i lits ++ drop i lits = sym (take-append-drop i lits) in
    rw whole (open-more d (take i lits) (drop i lits) open_)

pub look-end : (d : Answers) (lits : Clause) (i : ℕ) (found : Found) → length lits ≤ i → Finds d (take i lits) found → Finds d lits found
look-end d lits i found h f = rw (take_all i lits h) at f
