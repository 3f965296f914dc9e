-- Escapes as a relation: the symbols of a text, by cases on its front.
use Rattle.std.specs.Prelude.{◌≡◌, ◌↔◌, ℕ, List, [], ◌∷◌, true, false, ◌&&◌, ◌==◌, Some}
use Rattle.wildcard_lang.specs.declared.symbol.Symbol.{Symbol}
use Rattle.wildcard_lang.specs.declared.symbol.Symbol.TheVariants.{Written, Escaped}
use Rattle.wildcard_lang.specs.Symbols.{is_mark, opens_brace, symbols}

-- the text is read as the symbols
pub data Reads : List ℕ → List Symbol → Type 0 where
  -- no text, no symbols
  no_text : Reads [] []
  -- `${`, one of `*`, `?` and `$`, and `}` are that character, escaped
  reads_escape : {a b x d : ℕ} {cs : List ℕ} {ss : List Symbol} → a ≡ 36 → b ≡ 123 → is_mark x ≡ true → d ≡ 125 → Reads cs ss →
      Reads (a ∷ b ∷ x ∷ d ∷ cs) (Escaped x ∷ ss)
  -- any other character, at which no `${` stands, is itself
  reads_character : {c : ℕ} {cs : List ℕ} {ss : List Symbol} → ((c == 36) && opens_brace cs) ≡ false → Reads cs ss →
      Reads (c ∷ cs) (Written c ∷ ss)

-- the symbols of a text with escapes are those as which it is read. It has none, and a policy variable stands in it, exactly
-- where it can't be read
abbrev pub SymbolsAreRead : Type 0
SymbolsAreRead = (cs : List ℕ) (ss : List Symbol) → (symbols true cs ≡ Some ss) ↔ Reads cs ss
