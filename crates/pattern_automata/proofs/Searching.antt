-- Each state of a tree is that of some text, and a tree stays one when a state is added.
use Rattle.std.proofs.Common.{◌≡◌, ℕ, zero, suc, ◌<◌, List, [], ◌∷◌, ◌++◌, length, get_or, true, false, All, Contains, refl, sym, ap, ◌∙◌, inl, inr, arith}
use Rattle.std.proofs.lemmas.Bool.{cases_lt}
use Rattle.std.proofs.lemmas.List.{length_push, get_or_append_left, get_or_push}
use Rattle.std.proofs.lemmas.List.Elements.{All-push, All-nil, Contains-push}
use Rattle.wildcard_lang.specs.declared.piece.Piece.{Piece}
use Rattle.std.specs.Char.{IsScalar}
use Rattle.pattern_automata.specs.declared.tree.Parent.{Parent}
use Rattle.pattern_automata.specs.Marks.{mark_count}
use Rattle.pattern_automata.specs.Packed.{all_words, words_for}
use Rattle.pattern_automata.specs.Tree.{IsChild, IsTree, IsRooted, LeadsTo, IsTurn}
use Rattle.pattern_automata.proofs.Packing.{length-all_words}

some_parent : Parent
some_parent = record { state = 0; character = 0 }

-- a text of a state
pub record HasText (patterns : List (List Piece)) (marks : List ℕ) : Type 0 where
  pub text : List ℕ
  pub is : marks ≡ all_words patterns text
  pub scalars : All IsScalar text

module _ (patterns : List (List Piece)) (found : List (List ℕ)) (parents : List Parent) (tree : IsTree patterns found parents) where
  text-below : (n i : ℕ) → i < n → i < length found → HasText patterns (get_or found i [])
  text-below zero i h l = absurd (omega arith)
  text-below (suc n) zero h l = record { text = []; is = tree.first; scalars = All-nil IsScalar }
  text-below (suc n) (suc i) h l =
      let child = tree.next (suc i) some_parent (omega arith) (omega (arith, tree.count)) in
      let below = text-below n (get_or parents (suc i) some_parent).state (omega (arith, child.earlier)) (omega (arith, child.earlier)) in
      record {
        text = below.text ++ (get_or parents (suc i) some_parent).character ∷ [];
        is = child.leads below.text below.is;
        scalars = All-push IsScalar below.text _ below.scalars child.scalar;
      }

  pub text : (i : ℕ) → i < length found → HasText patterns (get_or found i [])
  text i l = text-below (suc i) i (omega arith) l

  pub words-length : (i : ℕ) → i < length found → length (get_or found i []) ≡ words_for (mark_count patterns)
  words-length i l = let t = text i l in ap length t.is ∙ length-all_words patterns t.text

  pub rooted : IsRooted parents
  rooted i d h l = let child = tree.next i d h l in (child.earlier, child.scalar)

  pub turn-old : (i c : ℕ) (marks : List ℕ) → LeadsTo patterns (get_or found i []) c marks → Contains found marks → IsTurn patterns found found parents marks i c false
  turn-old i c marks leads there = record { tree = tree; leads = leads; there = there; grows = refl }

  module _ (i c : ℕ) (marks : List ℕ) (grown : List (List ℕ)) (more : List Parent) (within : i < length found) (scalar : IsScalar c)
      (leads : LeadsTo patterns (get_or found i []) c marks) (is : grown ≡ found ++ marks ∷ []) (are : more ≡ parents ++ record { state = i; character = c } ∷ []) where
    kept : (j : ℕ) → j < length found → get_or grown j [] ≡ get_or found j []
    kept j h = ap (λ x. get_or x j []) is ∙ get_or_append_left found (marks ∷ []) [] j h

    child-kept : (j : ℕ) (p : Parent) → j < length found → IsChild patterns found j p → IsChild patterns grown j p
    child-kept j p h child = record {
      earlier = child.earlier;
      scalar = child.scalar;
      leads = λ t e. kept j h ∙ child.leads t (sym (kept p.state (omega (arith, child.earlier))) ∙ e);
    }

    child-new : (j : ℕ) → j ≡ length found → IsChild patterns grown j (record { state = i; character = c })
    child-new j e = record {
      earlier = omega arith;
      scalar = scalar;
      leads = λ t f. (ap (λ x. get_or x j []) is ∙ get_or_push found marks [] j (sym e)) ∙ leads t (sym (kept i within) ∙ f);
    }

    pub tree-push : IsTree patterns grown more
    tree-push = record {
      count = omega (arith, ap length are, ap length is, length_push parents (record { state = i; character = c }), length_push found marks, tree.count);
      nonempty = omega (arith, ap length is, length_push found marks);
      first = kept 0 tree.nonempty ∙ tree.first;
      next = λ j d h l.
          elim (cases_lt j (length parents)) [
            | inl s ↦
                let e : get_or more j d ≡ get_or parents j d = ap (λ x. get_or x j d) are ∙ get_or_append_left parents _ d j s in
                rw e (child-kept j _ (omega (arith, tree.count)) (tree.next j d h s))
            | inr g ↦
                let n : j ≡ length parents = omega (arith, ap length are, length_push parents (record { state = i; character = c })) in
                let e : get_or more j d ≡ record { state = i; character = c } = ap (λ x. get_or x j d) are ∙ get_or_push parents (record { state = i; character = c }) d j (sym n) in
                rw e (child-new j (n ∙ tree.count))
          ];
    }

    pub turn-new : (Contains found marks → ⊥) → IsTurn patterns found grown more marks i c true
    turn-new absent = record {
      tree = tree-push;
      leads = leads;
      there = rw is (Contains-push found marks);
      grows = (is, absent);
    }
