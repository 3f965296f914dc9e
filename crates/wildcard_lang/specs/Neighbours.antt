-- Bits for the characters that stand beside one another in a pattern.
use Rattle.std.specs.Prelude.{ℕ, ◌+◌, ◌*◌, ◌%◌, ◌^◌, List, [], ◌∷◌, Option, Some, None}
use Rattle.std.specs.Char.{to_ascii_lowercase}
use Rattle.std.specs.Int.RustNames.{bit_or}
use Rattle.wildcard_lang.specs.declared.marked.TheConstants.{BITS_APART, NEIGHBOUR_BITS}
use Rattle.wildcard_lang.specs.declared.piece.Piece.{Piece}
use Rattle.wildcard_lang.specs.declared.piece.Piece.TheVariants.{Lit, LitFold, One, Many, OneNoColon, ManyNoColon}

-- the character of a literal piece, a letter as its lower-case one
abbrev pub folded_character : Piece → Option ℕ
folded_character (Lit c) = Some (to_ascii_lowercase c)
folded_character (LitFold c) = Some (to_ascii_lowercase c)
folded_character One = None
folded_character Many = None
folded_character OneNoColon = None
folded_character ManyNoColon = None

-- beside the ends of a pattern stands the character 0
abbrev pub edge : Option ℕ
edge = Some 0

-- the bit of two characters beside one another
abbrev pub bit_of : ℕ → ℕ → ℕ
bit_of c next = 1 * 2 ^ ((c * BITS_APART + next) % NEIGHBOUR_BITS) % 2 ^ NEIGHBOUR_BITS

-- the bit of neighbours, where both are characters
abbrev pub neighbour_bit : Option ℕ → Option ℕ → ℕ
neighbour_bit None own = 0
neighbour_bit (Some c) None = 0
neighbour_bit (Some c) (Some next) = bit_of c next

-- the bits of pieces before which this neighbour stands
abbrev pub neighbour_bits : Option ℕ → List Piece → ℕ
neighbour_bits before [] = neighbour_bit before edge
neighbour_bits before (x ∷ p) = bit_or (neighbour_bit before (folded_character x)) (neighbour_bits (folded_character x) p)
