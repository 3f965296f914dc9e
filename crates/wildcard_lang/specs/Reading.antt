-- The pieces that a text stands for as a pattern, and what the readers of patterns may answer.
use Rattle.std.specs.Prelude.{◌≡◌, ◌<◌, ◌≤◌, ℕ, List, length, map, Bool, ◌&&◌, ◌==◌, Option, Some, None, option_map, IsSomeAnd, Result, Ok, Err, if◌then◌else◌}
use Rattle.std.specs.Char.{to_ascii_lowercase, is_ascii_alphabetic}
use Rattle.wildcard_lang.specs.declared.piece.Piece.{Piece}
use Rattle.wildcard_lang.specs.declared.piece.Piece.TheVariants.{Lit, LitFold, One, Many}
use Rattle.wildcard_lang.specs.declared.symbol.Symbol.{Symbol}
use Rattle.wildcard_lang.specs.declared.symbol.Symbol.TheVariants.{Written, Escaped}
use Rattle.wildcard_lang.specs.declared.fault.PatternFault.{PatternFault}
use Rattle.wildcard_lang.specs.declared.fault.PatternFault.TheVariants.{PolicyVariable, ArnParts, TooLong, NoMemory}
use Rattle.wildcard_lang.specs.Symbols.{symbols}
use Rattle.wildcard_lang.specs.declared.pattern.TheConstants.{MOST_PIECES}

-- the piece of a plain character. With folding an ASCII letter takes either case
abbrev pub literal : Bool → ℕ → Piece
literal fold c = (if fold && is_ascii_alphabetic c then LitFold (to_ascii_lowercase c) else Lit c)

-- the pieces of plain characters
abbrev pub literals : Bool → List ℕ → List Piece
literals fold cs = map (literal fold) cs

-- the piece of a character where `*` and `?` are wildcards
abbrev pub wildcard : Bool → ℕ → Piece
wildcard fold c = (if c == 42 then Many else (if c == 63 then One else literal fold c))

-- the pieces of characters where `*` and `?` are wildcards
abbrev pub wildcards : Bool → List ℕ → List Piece
wildcards fold cs = map (wildcard fold) cs

-- a symbol's piece in a literal pattern
abbrev pub literal_of : Bool → Symbol → Piece
literal_of fold (Written c) = literal fold c
literal_of fold (Escaped c) = literal fold c

-- a symbol's piece in a pattern with wildcards: an escaped character is plain
abbrev pub wildcard_of : Bool → Symbol → Piece
wildcard_of fold (Written c) = wildcard fold c
wildcard_of fold (Escaped c) = literal fold c

-- the pieces of a text as a literal pattern, or none where a policy variable stands in it
abbrev pub literal_pieces : Bool → Bool → List ℕ → Option (List Piece)
literal_pieces fold escapes cs = option_map (map (literal_of fold)) (symbols escapes cs)

-- the pieces of a text as a pattern with wildcards, or none where a policy variable stands in it
abbrev pub glob_pieces : Bool → Bool → List ℕ → Option (List Piece)
glob_pieces fold escapes cs = option_map (map (wildcard_of fold)) (symbols escapes cs)

-- what a reader answers by the pieces that the text stands for: these pieces where there are at most 2,048 of them, and
-- otherwise the fault, besides want of memory
abbrev pub IsRead : Option (List Piece) → Result (List Piece) PatternFault → Type 0
IsRead read (Ok p) = (read ≡ Some p) × (length p ≤ MOST_PIECES)
IsRead read (Err PolicyVariable) = read ≡ None
IsRead read (Err ArnParts) = ⊥
IsRead read (Err TooLong) = IsSomeAnd read (λ ps. MOST_PIECES < length ps)
IsRead read (Err NoMemory) = Unit {0}

-- the same where each character of the text is a piece
abbrev pub IsPlainRead : (ℕ → Piece) → List ℕ → Result (List Piece) PatternFault → Type 0
IsPlainRead piece cs (Ok p) = (p ≡ map piece cs) × (length cs ≤ MOST_PIECES)
IsPlainRead piece cs (Err PolicyVariable) = ⊥
IsPlainRead piece cs (Err ArnParts) = ⊥
IsPlainRead piece cs (Err TooLong) = MOST_PIECES < length cs
IsPlainRead piece cs (Err NoMemory) = Unit {0}
