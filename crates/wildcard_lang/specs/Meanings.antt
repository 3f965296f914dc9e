-- Which texts a pattern matches that was read from a text.
use Rattle.std.specs.Prelude.{◌≡◌, ◌≤◌, ◌↔◌, ℕ, zero, suc, List, [], ◌∷◌, ◌++◌, map, Bool, true, false, not, ◌==◌, Some, option_map}
use Rattle.std.specs.List.{list_all}
use Rattle.std.specs.Char.{to_ascii_lowercase}
use Rattle.wildcard_lang.specs.declared.piece.Piece.{Piece}
use Rattle.wildcard_lang.specs.declared.symbol.Symbol.{Symbol}
use Rattle.wildcard_lang.specs.declared.symbol.Symbol.TheVariants.{Written, Escaped}
use Rattle.wildcard_lang.specs.Text.{folded_text}
use Rattle.wildcard_lang.specs.Matching.{Matches}
use Rattle.wildcard_lang.specs.Symbols.{character, symbols, plain_text}
use Rattle.wildcard_lang.specs.Reading.{literals, literal_pieces, glob_pieces}
use Rattle.wildcard_lang.specs.Arns.{colons, arn_pieces}

-- ---- literal patterns

-- a literal pattern matches the plain text that was written, and no other
abbrev pub LiteralMatchesItself : Type 0
LiteralMatchesItself =
    (escapes : Bool) (cs : List ℕ) (ps : List Piece) (t : List ℕ) → literal_pieces false escapes cs ≡ Some ps →
    Matches ps t ↔ (plain_text escapes cs ≡ Some t)

-- with folding it matches the texts that are the same once ASCII letters are lowered
abbrev pub FoldedLiteralMatchesEitherCase : Type 0
FoldedLiteralMatchesEitherCase =
    (escapes : Bool) (cs : List ℕ) (ps : List Piece) (t : List ℕ) → literal_pieces true escapes cs ≡ Some ps →
    Matches ps t ↔ (option_map folded_text (plain_text escapes cs) ≡ Some (folded_text t))

-- the same of a text without escapes
abbrev pub LiteralsMatchThemselves : Type 0
LiteralsMatchThemselves = (cs t : List ℕ) → Matches (literals false cs) t ↔ (t ≡ cs)

abbrev pub FoldedLiteralsMatchEitherCase : Type 0
FoldedLiteralsMatchEitherCase = (cs t : List ℕ) → Matches (literals true cs) t ↔ (folded_text t ≡ folded_text cs)

-- ---- patterns with wildcards

-- whether the symbol is a wildcard for any number of characters, or for one; an escaped character is neither
abbrev pub is_star : Symbol → Bool
is_star (Written c) = c == 42
is_star (Escaped c) = false

abbrev pub is_question_mark : Symbol → Bool
is_question_mark (Written c) = c == 63
is_question_mark (Escaped c) = false

-- the characters are the same, with folding but for the case of ASCII letters
abbrev pub IsSameCharacter : Bool → ℕ → ℕ → Type 0
IsSameCharacter false d c = c ≡ d
IsSameCharacter true d c = to_ascii_lowercase c ≡ to_ascii_lowercase d

-- the text has the form that the symbols name
pub data HasForm (fold : Bool) : List Symbol → List ℕ → Type 0 where
  -- no symbols name the empty text
  no_symbols : HasForm fold [] []
  -- a star stands for any run of characters, none included
  star : {s : Symbol} {ss : List Symbol} {t : List ℕ} (run rest : List ℕ) → is_star s ≡ true → t ≡ run ++ rest →
      HasForm fold ss rest → HasForm fold (s ∷ ss) t
  -- a question mark stands for any one character
  question_mark : {s : Symbol} {ss : List Symbol} {c : ℕ} {t : List ℕ} → is_question_mark s ≡ true → HasForm fold ss t →
      HasForm fold (s ∷ ss) (c ∷ t)
  -- any other symbol stands for its character
  plain : {s : Symbol} {ss : List Symbol} {c : ℕ} {t : List ℕ} → is_star s ≡ false → is_question_mark s ≡ false →
      IsSameCharacter fold (character s) c → HasForm fold ss t → HasForm fold (s ∷ ss) (c ∷ t)

-- a pattern with wildcards matches the texts that have the form of its symbols, and no others
abbrev pub GlobMatchesItsForm : Type 0
GlobMatchesItsForm =
    (fold escapes : Bool) (cs : List ℕ) (ss : List Symbol) (ps : List Piece) (t : List ℕ) → symbols escapes cs ≡ Some ss →
    glob_pieces fold escapes cs ≡ Some ps →
    Matches ps t ↔ HasForm fold ss t

-- ---- patterns of ARNs

-- no character of the text is a colon
abbrev pub has_no_colon : List ℕ → Bool
has_no_colon t = list_all (λ c. not (c == 58)) t

-- the symbols and the text are both cut at their first colons, as many as the number says, and each part of the text has the
-- form of the symbols' part; what is behind the last cut may hold more colons
pub data HasParts : ℕ → List Symbol → List ℕ → Type 0 where
  last_part : {ss : List Symbol} {t : List ℕ} → HasForm false ss t → HasParts zero ss t
  first_part : {k : ℕ} {ss : List Symbol} {t : List ℕ} (part : List Symbol) (colon : Symbol) (more : List Symbol) (text rest : List ℕ) →
      ss ≡ part ++ colon ∷ more → character colon ≡ 58 → has_no_colon (map character part) ≡ true → t ≡ text ++ 58 ∷ rest →
      has_no_colon text ≡ true →
      HasForm false part text → HasParts k more rest → HasParts (suc k) ss t

-- the pattern of an ARN, which has five colons at least, matches the texts that have its six parts, and no others
abbrev pub ArnMatchesItsParts : Type 0
ArnMatchesItsParts =
    (escapes : Bool) (cs : List ℕ) (ss : List Symbol) (ps : List Piece) (t : List ℕ) → symbols escapes cs ≡ Some ss →
    arn_pieces escapes cs ≡ Some ps → 5 ≤ colons ps →
    Matches ps t ↔ HasParts 5 ss t
