-- Moves by proposals, and when they forget nothing.
use Rattle.std.specs.Prelude.{◌≡◌, ℕ, ◌<◌, List, length, slice_index_or, Option, Some, All, Vec, nat_eq}
use Rattle.std.specs.Char.{IsScalar}
use Rattle.std.specs.declared.alloc.Global.{Global}
use Rattle.indexmap.specs.IndexMap.{get}
use Rattle.wildcard_lang.specs.declared.piece.Piece.{Piece}
use Rattle.pattern_automata.specs.declared.moves.Move.{Move}
use Rattle.pattern_automata.specs.declared.named.Named.{Named}
use Rattle.pattern_automata.specs.declared.quick_moves.Indices.{Indices}
use Rattle.pattern_automata.specs.Moves.{HasPatch, IsPatch}

-- the index of the character
abbrev pub index_in : Indices → ℕ → Option ℕ
index_in indices c = get nat_eq indices.index c

-- the patches are those of the move's character, maybe not all
abbrev pub HasRightPatches : List (Option Piece) → Move → Type 0
HasRightPatches before m = IsScalar m.character × All (IsPatch before m.character) m.patches.items

-- the character's move, where it has an index, has a patch at the word
abbrev pub HasItsPatch : Indices → List Move → ℕ → ℕ → Type 0
HasItsPatch indices moves word c =
    (i : ℕ) → index_in indices c ≡ Some i → (d : Move) → HasPatch (slice_index_or moves i d).patches.items word

-- the same of each character that the word names, and of the colon
abbrev pub HaveTheirPatches : Indices → List Move → ℕ → List Named → Type 0
HaveTheirPatches indices moves word named =
    All (λ (x : Named). HasItsPatch indices moves word x.character) named × HasItsPatch indices moves word 58

-- the same of all words
abbrev pub HaveAllPatches : Indices → List Move → List (Vec Named Global) → Type 0
HaveAllPatches indices moves named =
    (k : ℕ) (d : Vec Named Global) → k < length named → HaveTheirPatches indices moves k (slice_index_or named k d).items

-- each move is at the index of its character
abbrev pub AreAtTheirIndices : Indices → List Move → Type 0
AreAtTheirIndices indices moves = (i : ℕ) (d : Move) → i < length moves → index_in indices (slice_index_or moves i d).character ≡ Some i
