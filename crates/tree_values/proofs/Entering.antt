-- Nodes that are entered into the lists of parents and leaves.
use Rattle.std.proofs.Common.{◌≡◌, ℕ, ◌<◌, ◌+◌, ◌==◌, ◌||◌, ◌&&◌, List, [], ◌∷◌, ◌++◌, length, set, Bool, true, false, Some, slice_get, ◌⊎◌, inl, inr, refl, sym, ap, subst, ◌∙◌, arith, get_or-set_same, get_or-set_other}
use Rattle.std.specs.Prelude.{OnOk}
use Rattle.std.proofs.Common.{Result, Ok, Err}
use Rattle.std.proofs.lemmas.Option.{slice_get_within}
use Rattle.formula_tree.proofs.Laws.{cases_eq}
use Rattle.tree_values.specs.Nodes.{Enters, HasEntered, PutsAt, has_child, has_test, holds_number, list_at}
use Rattle.tree_values.specs.declared.node.Node.{Node}
use Rattle.tree_values.specs.declared.node.Node.TheVariants.{Both, Either, Not}
use Rattle.tree_values.proofs.Lists.{among-push, number-other, number-same, or-assoc, or-cases, or-left, or-none, or-right, same-number}

-- one number more at the end of one list
pub puts-at : (old : List (List ℕ)) (at number : ℕ) (longer : List ℕ) → at < length old → longer ≡ list_at old at ++ number ∷ [] → PutsAt old (set old at longer) at number
puts-at old at number longer lt is c p =
    elim (cases_eq c at) [
      | inl e ↦
          let here : list_at (set old at longer) c ≡ list_at old c ++ number ∷ [] =
          ap (list_at (set old at longer)) e ∙ get_or-set_same old at longer [] lt ∙ is ∙ ap (λ (k : ℕ). list_at old k ++ number ∷ []) (sym e) in
          let own : (at == c) ≡ true = subst (λ (k : ℕ). (at == k) ≡ true) (sym e) (number-same at) in
          ap (λ (xs : List ℕ). holds_number xs p) here ∙ among-push (list_at old c) number p ∙ ap (λ (b : Bool). holds_number (list_at old c) p || (b && (number == p))) (sym own)
      | inr ne ↦
          let other : (at == c) ≡ false = number-other at c (λ e. ne (sym e)) in
          ap (λ (xs : List ℕ). holds_number xs p) (get_or-set_other old at c longer [] ne) ∙ or-none (holds_number (list_at old c) p) ∙ ap (λ (b : Bool). holds_number (list_at old c) p || (b && (number == p))) (sym other)
    ]

and-or : (a b c : Bool) → ((a && c) || (b && c)) ≡ ((a || b) && c)
and-or true true true = refl
and-or true true false = refl
and-or true false true = refl
and-or true false false = refl
and-or false b c = refl

pub puts-both : (old mid new : List (List ℕ)) (first second number : ℕ) → PutsAt old mid first number → PutsAt mid new second number → Enters (λ c. (first == c) || (second == c)) old new number
puts-both old mid new first second number one two c p =
    two c p ∙ ap (λ (b : Bool). b || ((second == c) && (number == p))) (one c p) ∙ sym (or-assoc (holds_number (list_at old c) p) ((first == c) && (number == p)) ((second == c) && (number == p))) ∙
    ap (λ (b : Bool). holds_number (list_at old c) p || b) (and-or (first == c) (second == c) (number == p))

pub puts-both-ok : {X E : Type 0} (r : Result X E) (old mid new : List (List ℕ)) (first second number : ℕ) → PutsAt old mid first number → OnOk r (PutsAt mid new second number) → OnOk r (Enters (λ c. (first == c) || (second == c)) old new number)
puts-both-ok (Ok x) old mid new first second number one two = puts-both old mid new first second number one two
puts-both-ok (Err e) old mid new first second number one two = tt

-- the children of a node are in range
pub child-below : (node : Node) (a n : ℕ) → node ≡ Not a → ((c : ℕ) → has_child node c ≡ true → c < n) → a < n
child-below node a n e below = below a (subst (λ (x : Node). has_child x a ≡ true) (sym e) (number-same a))

pub both-below : (node : Node) (a b n : ℕ) → node ≡ Both a b → ((c : ℕ) → has_child node c ≡ true → c < n) → (a < n) × (b < n)
both-below node a b n e below = (
  below a (subst (λ (x : Node). has_child x a ≡ true) (sym e) (or-left (a == a) (b == a) (number-same a))),
  below b (subst (λ (x : Node). has_child x b ≡ true) (sym e) (or-right (a == b) (b == b) (number-same b))),
)

pub either-below : (node : Node) (a b n : ℕ) → node ≡ Either a b → ((c : ℕ) → has_child node c ≡ true → c < n) → (a < n) × (b < n)
either-below node a b n e below = (
  below a (subst (λ (x : Node). has_child x a ≡ true) (sym e) (or-left (a == a) (b == a) (number-same a))),
  below b (subst (λ (x : Node). has_child x b ≡ true) (sym e) (or-right (a == b) (b == b) (number-same b))),
)

-- nothing is named
pub enters-none : (lists : List (List ℕ)) (number : ℕ) → Enters (λ c. false) lists lists number
enters-none lists number c p = or-none (holds_number (list_at lists c) p)

-- lists that had room made for them
pub puts-after : (old mid new : List (List ℕ)) (at number : ℕ) → ((i : ℕ) → list_at mid i ≡ list_at old i) → PutsAt mid new at number → PutsAt old new at number
puts-after old mid new at number same put c p = put c p ∙ ap (λ (xs : List ℕ). holds_number xs p || ((at == c) && (number == p))) (same c)

pub puts-after-ok : {X E : Type 0} (r : Result X E) (old mid new : List (List ℕ)) (at number : ℕ) → ((i : ℕ) → list_at mid i ≡ list_at old i) → OnOk r (PutsAt mid new at number) → OnOk r (PutsAt old new at number)
puts-after-ok (Ok x) old mid new at number same put = puts-after old mid new at number same put
puts-after-ok (Err e) old mid new at number same put = tt

-- ---- all nodes, one after another

kept : (named : ℕ → Bool) (old new : List (List ℕ)) (number : ℕ) → Enters named old new number → (c p : ℕ) → holds_number (list_at old c) p ≡ true → holds_number (list_at new c) p ≡ true
kept named old new number enters c p is = enters c p ∙ or-left (holds_number (list_at old c) p) (named c && (number == p)) is

both : (a b : Bool) → a ≡ true → b ≡ true → (a && b) ≡ true
both a b e f = rw (e, f) refl

both-parts : (a b : Bool) → (a && b) ≡ true → (a ≡ true) × (b ≡ true)
both-parts true b e = (refl, e)
both-parts false b e = absurd (cc)

entered : (named : ℕ → Bool) (old new : List (List ℕ)) (number c : ℕ) → Enters named old new number → named c ≡ true → holds_number (list_at new c) number ≡ true
entered named old new number c enters is =
    enters c number ∙ or-right (holds_number (list_at old c) number) (named c && (number == number)) (both (named c) (number == number) is (number-same number))

-- where a number stands among the new ones, it stood there or is the new one
from : (named : ℕ → Bool) (old new : List (List ℕ)) (number : ℕ) → Enters named old new number → (c p : ℕ) → holds_number (list_at new c) p ≡ true →
    (holds_number (list_at old c) p ≡ true) ⊎ ((named c ≡ true) × (number ≡ p))
from named old new number enters c p is =
    elim (or-cases (holds_number (list_at old c) p) (named c && (number == p)) (sym (enters c p) ∙ is)) [
      | inl h ↦ inl h
      | inr h ↦ let (a, b) = both-parts (named c) (number == p) h in inr (a, same-number number p b)
    ]

same-node : (nodes : List Node) (i k : ℕ) (n node : Node) → i ≡ k → slice_get nodes i ≡ Some n → slice_get nodes k ≡ Some node → n ≡ node
same-node nodes i k n node e there here = cc

pub entered-next : (nodes : List Node) (parents leaves ups asks : List (List ℕ)) (k : ℕ) (node : Node) → slice_get nodes k ≡ Some node → length ups ≡ length parents → Enters (has_child node) parents ups k → Enters (has_test node) leaves asks k →
    HasEntered nodes parents leaves k → HasEntered nodes ups asks (k + 1)
entered-next nodes parents leaves ups asks k node here long up ask before = record {
  ordered = before.ordered;
  long = long ∙ before.long;
  later = λ c p is.
      elim (from (has_child node) parents ups k up c p is) [
        | inl old ↦ before.later c p old
        | inr new ↦ let below : c < k = before.ordered k c node here new.0 in let inside : k < length nodes = slice_get_within nodes k node here in let e = new.1 in (omega arith, omega arith)
      ];
  there = λ n i is.
      elim (from (has_test node) leaves asks k ask n i is) [
        | inl old ↦ before.there n i old
        | inr new ↦ let inside : k < length nodes = slice_get_within nodes k node here in let e = new.1 in omega arith
      ];
  up = λ i c n lt there child.
      elim (cases_eq i k) [
        | inl e ↦
            let same : n ≡ node = same-node nodes i k n node e there here in
            subst (λ (x : ℕ). holds_number (list_at ups c) x ≡ true) (sym e) (entered (has_child node) parents ups k c up (subst (λ (x : Node). has_child x c ≡ true) same child))
        | inr ne ↦ kept (has_child node) parents ups k up c i (before.up i c n (omega arith) there child)
      ];
  asked = λ i t n lt there test.
      elim (cases_eq i k) [
        | inl e ↦
            let same : n ≡ node = same-node nodes i k n node e there here in
            subst (λ (x : ℕ). holds_number (list_at asks t) x ≡ true) (sym e) (entered (has_test node) leaves asks k t ask (subst (λ (x : Node). has_test x t ≡ true) same test))
        | inr ne ↦ kept (has_test node) leaves asks k ask t i (before.asked i t n (omega arith) there test)
      ];
}

-- the children of a node that is entered next
pub children-below : (nodes : List Node) (parents leaves : List (List ℕ)) (k : ℕ) (node : Node) → slice_get nodes k ≡ Some node → k < length nodes → HasEntered nodes parents leaves k → (c : ℕ) → has_child node c ≡ true → c < length parents
children-below nodes parents leaves k node there within entered c child = omega (arith, entered.ordered k c node there child, within, entered.long)
