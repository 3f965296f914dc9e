-- The lemmas on lines and decimals that crates above cite.
use Rattle.std.proofs.Common.{◌≡◌, ◌<◌, ◌^◌, ℕ, List, [], ◌∷◌, ◌++◌, map, length, drop, Some, All, decimal, sym, ap, ◌∙◌}
use Rattle.std.specs.List.{concat}
use Rattle.proof_text.specs.Laws.{IsUnbroken}
use Rattle.proof_text.specs.LineForms.{bytes_after, content_of, ended_lines, lines_of, number_said}
use Rattle.proof_text.proofs.Cutting as cutting
use Rattle.proof_text.proofs.Decimals as decimals
use Rattle.proof_text.proofs.Files as files
use Rattle.proof_text.proofs.Texts as texts
use Rattle.proof_text.proofs.Whole as whole

-- a line's content stands before its end
pub content_again : (content : List ℕ) → content_of (content ++ 10 ∷ []) ≡ Some content
content_again content = cutting.content-again content

pub content_spelled : (line content : List ℕ) → content_of line ≡ Some content → line ≡ content ++ 10 ∷ []
content_spelled line content is = texts.content-spelled line content is

-- lines that are ended are cut again
pub lines_again : (contents : List (List ℕ)) (rest : List ℕ) → All IsUnbroken contents → lines_of (ended_lines contents ++ rest) ≡ map (λ content. content ++ 10 ∷ []) contents ++ lines_of rest
lines_again contents rest unbroken = cutting.lines-again (λ (content : List ℕ). content) contents rest unbroken

-- and what stands behind them is what stood there
pub behind_again : (contents : List (List ℕ)) (rest : List ℕ) → All IsUnbroken contents → bytes_after (length contents) (ended_lines contents ++ rest) ≡ rest
behind_again contents rest unbroken =
    ap (λ (ls : List (List ℕ)). concat (drop (length contents) ls)) (lines_again contents rest unbroken) ∙
    ap concat (files.drop-ended contents (lines_of rest)) ∙ whole.concat-lines rest

some_same : (n m : ℕ) → Some n ≡ Some m → n ≡ m
some_same n m e = cc

-- numbers of one decimal are the same
pub decimal_same : (n m : ℕ) → n < 2 ^ 64 → m < 2 ^ 64 → decimal n ≡ decimal m → n ≡ m
decimal_same n m small smaller is =
    some_same n m (sym (decimals.number-written n small) ∙ ap number_said is ∙ decimals.number-written m smaller)
