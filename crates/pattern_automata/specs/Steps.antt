-- A step of words of marks: by masks, and by patches in their place.
use Rattle.std.specs.Prelude.{◌≡◌, ℕ, ◌+◌, ◌*◌, ◌<◌, ◌⊎◌, List, length, slice_index, slice_index_or, Bool, false, ◌||◌, ◌&&◌, Any}
use Rattle.pattern_automata.specs.declared.moves.Masks.{Masks}
use Rattle.pattern_automata.specs.declared.moves.Patch.{Patch}
use Rattle.pattern_automata.specs.Packed.{is_bit_on, word_mark, mark_before, filled_marks, moved_marks, stepped_marks}
use Rattle.pattern_automata.specs.Moves.{HasPatch}

-- the bit of the word at k after a step by `one` and `stay`, without what is led to
abbrev pub moved_at : ℕ → ℕ → List ℕ → ℕ → ℕ → Bool
moved_at one stay state k b = moved_marks (is_bit_on one) (is_bit_on stay) (is_bit_on (slice_index_or state k 0)) (mark_before false (word_mark state) (64 * k)) b

-- the same by the masks
abbrev pub masked_at : Masks → List ℕ → ℕ → ℕ → Bool
masked_at masks state k b = moved_at (slice_index_or masks.one.items k 0) (slice_index_or masks.many.items k 0) state k b

abbrev pub HaveSize : Masks → ℕ → Type 0
HaveSize masks n = (length masks.one.items ≡ n) × (length masks.many.items ≡ n)

-- the words of a step by the masks
pub record AreMoved (masks : Masks) (state words : List ℕ) : Type 0 where
  pub count : length words ≡ length state
  pub marks : (k b : ℕ) → k < length state → b < 64 → is_bit_on (slice_index_or words k 0) b ≡ masked_at masks state k b

abbrev pub IsMovedBy : List ℕ → List ℕ → ℕ → Patch → Type 0
IsMovedBy state words k p =
    (p.index ≡ k) × ((b : ℕ) → b < 64 → is_bit_on (slice_index_or words k 0) b ≡ moved_at p.one p.stay state k b)

-- the word at k is moved by one of the patches, where they have one, and else it is the old one
abbrev pub IsPatched : List ℕ → List Patch → List ℕ → List ℕ → ℕ → Type 0
IsPatched state patches old words k =
    Any (IsMovedBy state words k) patches
    ⊎ ((slice_index_or words k 0 ≡ slice_index_or old k 0) × (HasPatch patches k → ⊥))

abbrev pub ArePatched : List ℕ → List Patch → List ℕ → List ℕ → Type 0
ArePatched state patches old words = (k : ℕ) → k < length state → IsPatched state patches old words k

-- numbers of 64 bits
abbrev pub AreWords : List ℕ → Type 0
AreWords words = (k : ℕ) → k < length words → slice_index words k < 18446744073709551616

-- the words with what is led to
abbrev pub AreFilled : List ℕ → List ℕ → List ℕ → Type 0
AreFilled set leads words = (j : ℕ) → j < 64 * length set → word_mark words j ≡ filled_marks (word_mark set) (word_mark leads) false j

-- the patch moves as the masks do
abbrev pub IsAlike : Masks → List ℕ → Patch → Type 0
IsAlike masks state p = (b : ℕ) → b < 64 → moved_at p.one p.stay state p.index b ≡ masked_at masks state p.index b

-- the bit of the word at k is marked, or the mark before it is
abbrev pub near_at : List ℕ → ℕ → ℕ → Bool
near_at state k b = is_bit_on (slice_index_or state k 0) b || mark_before (mark_before false (word_mark state) (64 * k)) (is_bit_on (slice_index_or state k 0)) b

-- no mark of the state comes near the bits at which the patch differs
abbrev pub IsAway : List ℕ → Patch → Type 0
IsAway state p = (b : ℕ) → b < 64 → (near_at state p.index b && is_bit_on p.differs b) ≡ false

-- the masks with the patches in their place say what a character does
pub record AreMasksOf (masks : Masks) (patches : List Patch) (one stay : ℕ → Bool) : Type 0 where
  pub here : (k : ℕ) (p : Patch) → k < length patches → slice_index_or patches k p ≡ p → (b : ℕ) → b < 64 →
      (is_bit_on p.one b ≡ one (64 * p.index + b)) × (is_bit_on p.stay b ≡ stay (64 * p.index + b))
  pub elsewhere : (k : ℕ) → (HasPatch patches k → ⊥) → (b : ℕ) → b < 64 →
      (word_mark masks.one.items (64 * k + b) ≡ one (64 * k + b))
      × (word_mark masks.many.items (64 * k + b) ≡ stay (64 * k + b))

-- the words of a step
abbrev pub AreStepped : Masks → List Patch → List ℕ → List ℕ → Type 0
AreStepped masks patches state words =
    (one stay : ℕ → Bool) → AreMasksOf masks patches one stay → (j : ℕ) → j < 64 * length state →
    word_mark words j ≡ stepped_marks one stay (word_mark masks.many.items) (word_mark state) j
