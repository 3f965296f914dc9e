-- Patterns of ARNs. The text `arn:PARTITION:SERVICE:REGION:ACCOUNT:RESOURCE` has six parts, cut at its first five colons, and
-- the wildcards of the first five parts take no colon.
use Rattle.std.specs.Prelude.{◌≡◌, ◌<◌, ◌≤◌, ℕ, zero, suc, List, [], ◌∷◌, length, Bool, false, ◌==◌, Option, Some, None, option_map, IsSomeAnd, Result, Ok, Err, if◌then◌else◌}
use Rattle.wildcard_lang.specs.declared.piece.Piece.{Piece}
use Rattle.wildcard_lang.specs.declared.piece.Piece.TheVariants.{Lit, LitFold, One, Many, OneNoColon, ManyNoColon}
use Rattle.wildcard_lang.specs.declared.fault.PatternFault.{PatternFault}
use Rattle.wildcard_lang.specs.declared.fault.PatternFault.TheVariants.{PolicyVariable, ArnParts, TooLong, NoMemory}
use Rattle.wildcard_lang.specs.Reading.{glob_pieces}
use Rattle.wildcard_lang.specs.declared.pattern.TheConstants.{MOST_PIECES}

-- the wildcard that takes no colon in place of one that takes any character
abbrev pub narrow_piece : Piece → Piece
narrow_piece (Lit c) = Lit c
narrow_piece (LitFold c) = LitFold c
narrow_piece One = OneNoColon
narrow_piece Many = ManyNoColon
narrow_piece OneNoColon = OneNoColon
narrow_piece ManyNoColon = ManyNoColon

-- whether the piece is a plain colon
abbrev pub is_colon : Piece → Bool
is_colon (Lit c) = c == 58
is_colon (LitFold c) = false
is_colon One = false
is_colon Many = false
is_colon OneNoColon = false
is_colon ManyNoColon = false

-- the piece where so many plain colons are still to come: a wildcard before the last of them is narrowed
abbrev pub narrow_before : ℕ → Piece → Piece
narrow_before zero p = p
narrow_before (suc k) p = narrow_piece p

-- how many of them are still to come behind the piece
abbrev pub colons_left : ℕ → Piece → ℕ
colons_left zero p = zero
colons_left (suc k) p = (if is_colon p then k else suc k)

-- the pieces, narrowed before so many plain colons
abbrev pub narrowed_pieces : ℕ → List Piece → List Piece
narrowed_pieces k [] = []
narrowed_pieces k (p ∷ ps) = narrow_before k p ∷ narrowed_pieces (colons_left k p) ps

-- how many plain colons there are
abbrev pub colons : List Piece → ℕ
colons [] = zero
colons (p ∷ ps) = (if is_colon p then suc (colons ps) else colons ps)

-- the pieces of a text as the pattern of an ARN, or none where a policy variable stands in it
abbrev pub arn_pieces : Bool → List ℕ → Option (List Piece)
arn_pieces escapes cs = option_map (narrowed_pieces 5) (glob_pieces false escapes cs)

-- what the reader answers by the pieces that the text stands for: these pieces where there are five plain colons and at most
-- 2,048 pieces, and otherwise the fault, besides want of memory
abbrev pub IsArnRead : Option (List Piece) → Result (List Piece) PatternFault → Type 0
IsArnRead read (Ok p) = (read ≡ Some p) × (5 ≤ colons p) × (length p ≤ MOST_PIECES)
IsArnRead read (Err PolicyVariable) = read ≡ None
IsArnRead read (Err ArnParts) = IsSomeAnd read (λ ps. colons ps < 5)
IsArnRead read (Err TooLong) = IsSomeAnd read (λ ps. (5 ≤ colons ps) × (MOST_PIECES < length ps))
IsArnRead read (Err NoMemory) = Unit {0}
