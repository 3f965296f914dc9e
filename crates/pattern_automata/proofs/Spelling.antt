-- Walking a tree of states down to its first, and what the texts that it spells lead to.
use Rattle.std.proofs.Common.{◌≡◌, ℕ, zero, suc, ◌<◌, ◌≤◌, List, [], ◌∷◌, ◌++◌, length, get_or, reverse, All, ap, ◌∙◌, subst, arith}
use Rattle.std.proofs.lemmas.List.{append_assoc, reverse-append, get_or_default}
use Rattle.std.proofs.lemmas.List.Elements.{All-push, All-nil}
use Rattle.wildcard_lang.specs.declared.piece.Piece.{Piece}
use Rattle.std.specs.Char.{IsScalar}
use Rattle.pattern_automata.specs.declared.tree.Parent.{Parent}
use Rattle.pattern_automata.specs.Packed.{all_words}
use Rattle.pattern_automata.specs.Tree.{IsChild, IsTree, IsRooted, Spells, at_first, at_next}

pub Walks : List Parent → ℕ → ℕ → List ℕ → Type 0
Walks parents i at chars = (at < length parents) × All IsScalar chars × ((t : List ℕ) → Spells parents at t → Spells parents i (t ++ reverse chars))

module _ (parents : List Parent) (i at : ℕ) (chars new : List ℕ) (d : Parent) (rooted : IsRooted parents) (up : 0 < at) (within : at < length parents) (is : new ≡ chars ++ (get_or parents at d).character ∷ []) where
  step-scalars : All IsScalar chars → All IsScalar new
  step-scalars all = rw is (All-push IsScalar chars _ all (rooted at d up within).1)

  step-spells : ((t : List ℕ) → Spells parents at t → Spells parents i (t ++ reverse chars)) → (t : List ℕ) → Spells parents (get_or parents at d).state t → Spells parents i (t ++ reverse new)
  step-spells walk t s =
      let p : Parent = get_or parents at d in
      let same : get_or parents at p ≡ p = get_or_default parents at p d within in
      let turned : reverse new ≡ p.character ∷ reverse chars = ap reverse is ∙ reverse-append chars (p.character ∷ []) in
      let more = walk (t ++ p.character ∷ []) (at_next {p = p} up within same s) in
      rw turned (subst (λ (x : List ℕ). Spells parents i x) (append_assoc t (p.character ∷ []) (reverse chars)) more)

pub spell-turn : (parents : List Parent) (i at : ℕ) (chars new : List ℕ) (d : Parent) → IsRooted parents → 0 < at → at < length parents →
    new ≡ chars ++ (get_or parents at d).character ∷ [] →
    (at < length parents) × All IsScalar chars × ((t : List ℕ) → Spells parents at t → Spells parents i (t ++ reverse chars)) →
    ((get_or parents at d).state < length parents) × All IsScalar new × ((t : List ℕ) → Spells parents (get_or parents at d).state t → Spells parents i (t ++ reverse new))
spell-turn parents i at chars new d rooted up within is walk = (
  omega (arith, (rooted at d up within).0),
  step-scalars parents i at chars new d rooted up within is walk.1,
  step-spells parents i at chars new d rooted up within is walk.2,
)

pub spell-end : (parents : List Parent) (i at : ℕ) (chars text : List ℕ) → at ≤ 0 → text ≡ reverse chars →
    ((t : List ℕ) → Spells parents at t → Spells parents i (t ++ reverse chars)) → Spells parents i text
spell-end parents i zero chars text h is walk = rw is (walk [] at_first)
spell-end parents i (suc at) chars text h is walk = absurd (omega arith)

-- the text that a place of the tree spells leads to the state there
pub spelled : (patterns : List (List Piece)) (found : List (List ℕ)) (parents : List Parent) → IsTree patterns found parents →
    (i : ℕ) (t : List ℕ) → Spells parents i t → (get_or found i [] ≡ all_words patterns t) × All IsScalar t
spelled patterns found parents tree i t at_first = (tree.first, All-nil IsScalar)
spelled patterns found parents tree i t (at_next {p = p} {t = u} up within is s) =
    let below = spelled patterns found parents tree p.state u s in
    let child : IsChild patterns found i p = subst (λ (x : Parent). IsChild patterns found i x) is (tree.next i p up within) in
    (child.leads u below.0, All-push IsScalar u p.character below.1 child.scalar)
