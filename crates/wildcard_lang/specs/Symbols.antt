-- The symbols of a pattern's text. The IAM policy language writes the plain characters `*`, `?` and `$` as the escapes `${*}`,
-- `${?}` and `${$}`; every other `${` begins a policy variable.
use Rattle.std.specs.Prelude.{◌≡◌, ◌<◌, ◌≤◌, ℕ, zero, suc, List, [], ◌∷◌, length, drop, map, Bool, true, false, ◌&&◌, ◌||◌, ◌==◌, Option, Some, None, option_map, if◌then◌else◌}
use Rattle.wildcard_lang.specs.declared.symbol.Symbol.{Symbol}
use Rattle.wildcard_lang.specs.declared.symbol.Symbol.TheVariants.{Written, Escaped}

-- the character of a symbol
abbrev pub character : Symbol → ℕ
character (Written c) = c
character (Escaped c) = c

-- whether an escape may stand for the character: `*`, `?` or `$`
abbrev pub is_mark : ℕ → Bool
is_mark x = (x == 42) || ((x == 63) || (x == 36))

-- whether a `{` stands at the front
abbrev pub opens_brace : List ℕ → Bool
opens_brace [] = false
opens_brace (c ∷ cs) = c == 123

-- the plain character for which a `$` and what is behind it stand: `{`, the character and `}`
abbrev pub escaped_character : List ℕ → Option ℕ
escaped_character [] = None
escaped_character (a ∷ []) = None
escaped_character (a ∷ x ∷ []) = None
escaped_character (a ∷ x ∷ b ∷ cs) = (if (a == 123) && ((b == 125) && is_mark x) then Some x else None)

-- the symbols with one more in front
abbrev pub prepend : Symbol → Option (List Symbol) → Option (List Symbol)
prepend s None = None
prepend s (Some ss) = Some (s ∷ ss)

-- the symbols with an escaped character in front, where an escape stands there
abbrev pub prepend_escaped : Option ℕ → Option (List Symbol) → Option (List Symbol)
prepend_escaped None read = None
prepend_escaped (Some x) read = prepend (Escaped x) read

-- the symbols of the text without its first characters, as many as the number says: an escape is one symbol, and every other
-- character is one. There are none where a `${` that begins no escape stands in the text
abbrev pub symbols_after : ℕ → List ℕ → Option (List Symbol)
symbols_after skip [] = Some []
symbols_after (suc k) (c ∷ cs) = symbols_after k cs
symbols_after zero (c ∷ cs) =
    (if (c == 36) && opens_brace cs then prepend_escaped (escaped_character cs) (symbols_after 3 cs) else prepend (Written c) (symbols_after zero cs))

-- the symbols of a text, in which escapes are read or each character is plain
abbrev pub symbols : Bool → List ℕ → Option (List Symbol)
symbols false cs = Some (map Written cs)
symbols true cs = symbols_after zero cs

-- the plain text that a text with escapes stands for, or none where a policy variable stands in it
abbrev pub plain_text : Bool → List ℕ → Option (List ℕ)
plain_text escapes cs = option_map (map character) (symbols escapes cs)

-- the symbol at the front of a text, with the number of characters that it takes
pub record IsNext (text : List ℕ) (found : Symbol × ℕ) : Type 0 where
  pub positive : 0 < found.1
  pub few : found.1 ≤ 4
  pub within : found.1 ≤ length text
  pub read : symbols_after zero text ≡ prepend found.0 (symbols_after zero (drop found.1 text))
