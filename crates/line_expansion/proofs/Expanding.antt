-- Reading a line from its front.
use Rattle.std.proofs.Common.{ap, sym, subst, ◌∙◌, refl, ◌==◌, ℕ, List, ◌++◌}
use Rattle.std.proofs.lemmas.List.{take-append-drop, append_assoc}
use Rattle.std.specs.Char.{encode_utf8}
use Rattle.std.specs.Str.{NoCharPasses}
use Rattle.std.specs.Str.Pattern.{FindsChar, SplitsAroundMatch}
use Rattle.line_expansion.specs.Expansion.{opening_bracket, closing_bracket, IsCutAt, IsRepeated, ExpandsTo, plain, repeated}

-- however the rest of the line is written out, the line is the file so far with that behind it
abbrev pub Reading : List ℕ → List ℕ → List ℕ → Type 0
Reading line rest file = (end : List ℕ) → ExpandsTo rest end → ExpandsTo line (file ++ end)

pub cut : (c : ℕ) (text before after : List ℕ) → SplitsAroundMatch (FindsChar c) text before after → IsCutAt c text before after
cut c text before after h = record {
  first = subst (NoCharPasses (λ d. d == c)) (sym h.3) h.2.0;
  parts = sym (take-append-drop h.0 text) ∙ (λ k. sym h.3 k ++ (h.2.1.split ∙ ap (λ l. encode_utf8 c ++ l) (sym h.4)) k);
}

pub step : (line rest file before opened group after text : List ℕ) → Reading line rest file → IsCutAt opening_bracket rest before opened → IsCutAt closing_bracket opened group after → IsRepeated group text → Reading line after ((file ++ before) ++ text)
step line rest file before opened group after text reading opened_at closed_at times = λ end stands.
    rw (append_assoc (file ++ before) text end, append_assoc file before (text ++ end))
    (reading (before ++ (text ++ end)) (repeated opened_at closed_at times stands refl))

pub finish : (line rest file : List ℕ) → Reading line rest file → NoCharPasses (λ d. d == opening_bracket) rest → ExpandsTo line (file ++ rest)
finish line rest file reading none = reading rest (plain none)
