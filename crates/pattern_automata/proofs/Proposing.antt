-- Moves by proposals that forget nothing.
use Rattle.std.proofs.Common.{◌≡◌, ◌⊎◌, ◌==◌, ℕ, suc, ◌+◌, ◌/◌, ◌<◌, List, [], ◌∷◌, ◌++◌, length, get_or, Bool, true, false, cond, Option, None, Some, All, Any, Vec, refl, sym, ap, subst, ◌∙◌, inl, inr, arith}
use Rattle.std.specs.Prelude.{IfSome}
use Rattle.std.specs.Option.{option_to_list}
use Rattle.std.specs.declared.alloc.Global.{Global}
use Rattle.std.proofs.lemmas.Bool.{cases_eq}
use Rattle.std.proofs.lemmas.Bool.Decides.{Decides-eqb}
use Rattle.std.proofs.lemmas.List.{append-nil, get_or_default}
use Rattle.std.proofs.lemmas.List.Elements.{All-push}
use Rattle.wildcard_lang.specs.declared.piece.Piece.{Piece}
use Rattle.pattern_automata.specs.declared.moves.Move.{Move}
use Rattle.pattern_automata.specs.declared.moves.Patch.{Patch}
use Rattle.pattern_automata.specs.declared.named.Named.{Named}
use Rattle.pattern_automata.specs.declared.quick_moves.Indices.{Indices}
use Rattle.pattern_automata.specs.Moves.{HasPatch, IsMove, IsPatch, distinguishes, if_piece}
use Rattle.pattern_automata.specs.Named.{HaveNames, bits_of}
use Rattle.pattern_automata.specs.Proposals.{AreAtTheirIndices, HasRightPatches, HaveAllPatches, HaveTheirPatches, index_in}
use Rattle.pattern_automata.proofs.Telling.{like-others}

-- one more patch
pub proposed-next : (F : List (Option Piece)) (c : ℕ) (patch : Option Patch) (old new : List Patch) → IfSome patch (IsPatch F c) → new ≡ old ++ option_to_list patch →
    All (IsPatch F c) old → All (IsPatch F c) new
proposed-next F c None old new none is right = subst (All (IsPatch F c)) (sym (is ∙ append-nil old)) right
proposed-next F c (Some p) old new patch is right = subst (All (IsPatch F c)) (sym is) (All-push (IsPatch F c) old p right patch)

-- what has bits has an entry
bits-more : (x : Named) (xs : List Named) (c : ℕ) → (bits_of xs c ≡ 0) ⊎ Any (λ (y : Named). y.character ≡ c) xs → (b : Bool) → (x.character == c) ≡ b →
    (bits_of (x ∷ xs) c ≡ 0) ⊎ Any (λ (y : Named). y.character ≡ c) (x ∷ xs)
bits-more x xs c rest true e = inr (0, x, omega arith, refl, (Decides-eqb x.character c).0 e)
bits-more x xs c rest false e =
    elim rest [
      | inl none ↦ inl (ap (λ (b : Bool). cond b x.bits (bits_of xs c)) e ∙ none)
      | inr w ↦ inr (suc w.0, w.1, omega (arith, w.2), w.3, w.4)
    ]

find-bits : (named : List Named) (c : ℕ) → (bits_of named c ≡ 0) ⊎ Any (λ (x : Named). x.character ≡ c) named
find-bits [] c = inl refl
find-bits (x ∷ xs) c = bits-more x xs c (find-bits xs c) (x.character == c) refl

one_of : (named : List (Vec Named Global)) → 0 < length named → Vec Named Global
one_of [] h = absurd (omega (arith, h))
one_of (x ∷ xs) h = x

-- one more word
pub patches-next : (indices : Indices) (moves : List Move) (named : List (Vec Named Global)) (i : ℕ) (own : Vec Named Global) → i < length named → own ≡ get_or named i own → HaveTheirPatches indices moves i own.items →
    ((k : ℕ) (d : Vec Named Global) → k < i → HaveTheirPatches indices moves k (get_or named k d).items) →
    (k : ℕ) (d : Vec Named Global) → k < i + 1 → HaveTheirPatches indices moves k (get_or named k d).items
patches-next indices moves named i own within is have before k d h =
    elim (cases_eq k i) [
      | inl e ↦
          let at : get_or named i d ≡ own = get_or_default named i d own within ∙ sym is in
          let here : HaveTheirPatches indices moves i (get_or named i d).items = subst (λ (v : Vec Named Global). HaveTheirPatches indices moves i v.items) (sym at) have in
          subst (λ (n : ℕ). HaveTheirPatches indices moves n (get_or named n d).items) (sym e) here
      | inr ne ↦ before k d (omega (arith, h, ne))
    ]

-- a word at which a piece tells the move's character from others has a patch
module _ (F : List (Option Piece)) (indices : Indices) (moves : List Move) (k : ℕ) (d : Move) (placed : index_in indices (get_or moves k d).character ≡ Some k) where
  at-colon : (word : ℕ) (named : List Named) → HaveTheirPatches indices moves word named → (get_or moves k d).character ≡ 58 → HasPatch (get_or moves k d).patches.items word
  at-colon word named have colon = have.1 k (subst (λ (c : ℕ). index_in indices c ≡ Some k) colon placed) d

  at-entry : (word : ℕ) (named : List Named) → HaveTheirPatches indices moves word named → Any (λ (x : Named). x.character ≡ (get_or moves k d).character) named →
      HasPatch (get_or moves k d).patches.items word
  at-entry word named have w =
      let same : (get_or named w.0 w.1).character ≡ (get_or moves k d).character = ap (λ (x : Named). x.character) w.3 ∙ w.4 in
      have.0 w.0 w.1 w.2 k (subst (λ (c : ℕ). index_in indices c ≡ Some k) (sym same) placed) d

  covered : (named : List (Vec Named Global)) → HaveNames F named → HaveAllPatches indices moves named → (j : ℕ) → j < length F →
      if_piece (distinguishes (get_or moves k d).character) (get_or F j None) ≡ true → HasPatch (get_or moves k d).patches.items (j / 64)
  covered named have all j h told =
      let within : j / 64 < length named = omega (arith, have.count, h) in
      let one = one_of named (omega (arith, within)) in
      let own : List Named = (get_or named (j / 64) one).items in
      elim (cases_eq (get_or moves k d).character 58) [
        | inl colon ↦ at-colon (j / 64) own (all (j / 64) one within) colon
        | inr other ↦
            elim (find-bits own (get_or moves k d).character) [
              | inl none ↦ absurd (like-others F (j / 64) (get_or moves k d).character own 0 other (have.each (j / 64) one within) (sym none) refl j refl told)
              | inr w ↦ at-entry (j / 64) own (all (j / 64) one within) w
            ]
      ]

pub all-moves : (F : List (Option Piece)) (indices : Indices) (moves : List Move) (named : List (Vec Named Global)) → HaveNames F named → All (HasRightPatches F) moves → AreAtTheirIndices indices moves →
    HaveAllPatches indices moves named → All (IsMove F) moves
all-moves F indices moves named have right placed all k d h = record {
  scalar = (right k d h).0;
  distinguished = record {
    right = (right k d h).1;
    covers = covered F indices moves k d (placed k d h) named have all;
  };
}
