-- The text that a line stands for, where what stands many times is written once: `⟦3|ab⟧` is `ababab`. This form is the project's
-- own choice.
use Rattle.std.specs.Prelude.{◌≡◌, ◌==◌, ℕ, List, ◌++◌}
use Rattle.std.specs.Char.{encode_utf8}
use Rattle.std.specs.List.{repeat}
use Rattle.std.specs.Str.{NoCharPasses}
use Rattle.std.specs.Str.Parse.{IsNumeral, digits_value, without_leading_plus}

-- the characters `⟦`, `|` and `⟧`
abbrev pub opening_bracket : ℕ
opening_bracket = 10214

abbrev pub vertical_bar : ℕ
vertical_bar = 124

abbrev pub closing_bracket : ℕ
closing_bracket = 10215

-- the text is two texts around the first such character
pub record IsCutAt (c : ℕ) (text before after : List ℕ) : Type 0 where
  pub first : NoCharPasses (λ d. d == c) before
  pub parts : text ≡ before ++ (encode_utf8 c ++ after)

-- `N|TEXT` stands for N times TEXT
pub record IsRepeated (group file : List ℕ) : Type 0 where
  pub number : List ℕ
  pub text : List ℕ
  pub cut : IsCutAt vertical_bar group number text
  pub is_number : IsNumeral 10 (without_leading_plus number)
  pub times : file ≡ repeat (digits_value 10 (without_leading_plus number)) text

-- the line, written out, is the file
pub data ExpandsTo : List ℕ → List ℕ → Type 0 where
  -- a line without `⟦` is the file
  plain : {line : List ℕ} → NoCharPasses (λ d. d == opening_bracket) line → ExpandsTo line line
  -- the file begins with what stands before the first `⟦` and then the repeated text
  repeated : {line file before opened group after text rest : List ℕ} →
      IsCutAt opening_bracket line before opened → IsCutAt closing_bracket opened group after → IsRepeated group text → ExpandsTo after rest →
      file ≡ before ++ (text ++ rest) → ExpandsTo line file
