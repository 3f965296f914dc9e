-- What the written form of a pattern is read as: the pattern itself, where a reader made it from some text.
use Rattle.std.specs.Prelude.{◌≡◌, ◌≤◌, ◌↔◌, ℕ, List, Bool, true, false, Some}
use Rattle.std.specs.List.{list_all}
use Rattle.wildcard_lang.specs.declared.piece.Piece.{Piece}
use Rattle.wildcard_lang.specs.declared.piece.Piece.TheVariants.{Lit, LitFold, One, Many, OneNoColon, ManyNoColon}
use Rattle.wildcard_lang.specs.Patterns.{is_not_narrow}
use Rattle.wildcard_lang.specs.Reading.{literal_pieces, glob_pieces}
use Rattle.wildcard_lang.specs.Arns.{colons, arn_pieces}
use Rattle.wildcard_lang.specs.Writing.{written_form, action_form}

-- ---- what readers make

-- the pieces are those of some text as a pattern with wildcards
abbrev pub IsGlobOf : Bool → Bool → List Piece → Type 0
IsGlobOf fold escapes ps = (cs : List ℕ) × (glob_pieces fold escapes cs ≡ Some ps)

-- they are those of some text as a literal pattern
abbrev pub IsLiteralOf : Bool → Bool → List Piece → Type 0
IsLiteralOf fold escapes ps = (cs : List ℕ) × (literal_pieces fold escapes cs ≡ Some ps)

-- they are those of some text as the pattern of an ARN, with its five colons
abbrev pub IsArnOf : Bool → List Piece → Type 0
IsArnOf escapes ps = (cs : List ℕ) × (arn_pieces escapes cs ≡ Some ps) × (5 ≤ colons ps)

-- a plain character, or a wildcard that takes colons
abbrev pub is_glob_piece : Piece → Bool
is_glob_piece (Lit c) = true
is_glob_piece (LitFold c) = false
is_glob_piece One = true
is_glob_piece Many = true
is_glob_piece OneNoColon = false
is_glob_piece ManyNoColon = false

-- with escapes and without folding, the texts stand as patterns with wildcards for all lists of such pieces, and for no others
abbrev pub GlobsAreOfTheirPieces : Type 0
GlobsAreOfTheirPieces = (ps : List Piece) → IsGlobOf false true ps ↔ (list_all is_glob_piece ps ≡ true)

-- so literal patterns without folding are among them, and patterns of ARNs in which each wildcard takes colons
abbrev pub LiteralsAreGlobs : Type 0
LiteralsAreGlobs = (escapes : Bool) (ps : List Piece) → IsLiteralOf false escapes ps → IsGlobOf false true ps

abbrev pub WideArnsAreGlobs : Type 0
WideArnsAreGlobs =
    (escapes : Bool) (ps : List Piece) → IsArnOf escapes ps → list_all is_not_narrow ps ≡ true → IsGlobOf false true ps

-- ---- what is read again

-- with escapes, the written form of a pattern that a text stood for with escapes or without stands for the pattern
abbrev pub GlobsAreReadAgain : Type 0
GlobsAreReadAgain =
    (fold escapes : Bool) (ps : List Piece) → IsGlobOf fold escapes ps → glob_pieces fold true (written_form ps) ≡ Some ps

abbrev pub LiteralsAreReadAgain : Type 0
LiteralsAreReadAgain =
    (fold escapes : Bool) (ps : List Piece) → IsLiteralOf fold escapes ps → literal_pieces fold true (written_form ps) ≡ Some ps

abbrev pub ArnsAreReadAgain : Type 0
ArnsAreReadAgain = (escapes : Bool) (ps : List Piece) → IsArnOf escapes ps → arn_pieces true (written_form ps) ≡ Some ps

-- without escapes, the form of an action stands for the pattern that a text stood for without escapes
abbrev pub ActionsAreReadAgain : Type 0
ActionsAreReadAgain = (ps : List Piece) → IsGlobOf true false ps → glob_pieces true false (action_form ps) ≡ Some ps

-- ---- so a pattern that a text stands for without escapes is one that some text stands for with escapes

abbrev pub GlobsAreFoundWithEscapes : Type 0
GlobsAreFoundWithEscapes = (fold escapes : Bool) (ps : List Piece) → IsGlobOf fold escapes ps → IsGlobOf fold true ps

abbrev pub LiteralsAreFoundWithEscapes : Type 0
LiteralsAreFoundWithEscapes = (fold escapes : Bool) (ps : List Piece) → IsLiteralOf fold escapes ps → IsLiteralOf fold true ps

abbrev pub ArnsAreFoundWithEscapes : Type 0
ArnsAreFoundWithEscapes = (escapes : Bool) (ps : List Piece) → IsArnOf escapes ps → IsArnOf true ps

-- ---- patterns of one kind have one written form only where they are equal

abbrev pub GlobsAreWrittenApart : Type 0
GlobsAreWrittenApart =
    (fold escapes more : Bool) (ps qs : List Piece) → IsGlobOf fold escapes ps → IsGlobOf fold more qs →
    written_form ps ≡ written_form qs → ps ≡ qs

abbrev pub LiteralsAreWrittenApart : Type 0
LiteralsAreWrittenApart =
    (fold escapes more : Bool) (ps qs : List Piece) → IsLiteralOf fold escapes ps → IsLiteralOf fold more qs →
    written_form ps ≡ written_form qs → ps ≡ qs

abbrev pub ArnsAreWrittenApart : Type 0
ArnsAreWrittenApart =
    (escapes more : Bool) (ps qs : List Piece) → IsArnOf escapes ps → IsArnOf more qs →
    written_form ps ≡ written_form qs → ps ≡ qs

abbrev pub ActionsAreWrittenApart : Type 0
ActionsAreWrittenApart =
    (ps qs : List Piece) → IsGlobOf true false ps → IsGlobOf true false qs → action_form ps ≡ action_form qs → ps ≡ qs
