-- Texts: lists of Unicode scalars.
use Rattle.std.specs.Prelude.{◌≡◌, ℕ, List, map, true}
use Rattle.std.specs.Char.{to_ascii_lowercase}
use Rattle.std.specs.Str.{all_scalars}

-- each number is a Unicode scalar
abbrev pub IsText : List ℕ → Type 0
IsText t = all_scalars t ≡ true

-- the text with its ASCII letters lowered
abbrev pub folded_text : List ℕ → List ℕ
folded_text t = map to_ascii_lowercase t
