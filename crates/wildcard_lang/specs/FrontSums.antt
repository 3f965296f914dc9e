-- Sums of the characters at the front of a pattern. Patterns whose fronts have different sums differ at two literals.
use Rattle.std.specs.Prelude.{◌≢◌, ℕ, zero, suc, ◌+◌, ◌*◌, ◌%◌, ◌^◌, List, [], ◌∷◌, Option, Some, None}
use Rattle.wildcard_lang.specs.declared.marked.TheConstants.{SUM_FACTOR}
use Rattle.wildcard_lang.specs.declared.piece.Piece.{Piece}
use Rattle.wildcard_lang.specs.Neighbours.{folded_character}

-- the sum with one character more, as 32 bits hold it
abbrev pub next_sum : ℕ → ℕ → ℕ
next_sum sum c = (sum * SUM_FACTOR % 2 ^ 32 + c) % 2 ^ 32

-- 0 where there is no character
abbrev pub with_character : Option ℕ → (ℕ → ℕ) → ℕ
with_character None more = 0
with_character (Some c) more = more c

-- the sum, to which so many characters from the front are added, and 0 where a wildcard or the end comes before
abbrev pub front_sum : ℕ → ℕ → List Piece → ℕ
front_sum zero sum p = sum
front_sum (suc n) sum [] = 0
front_sum (suc n) sum (x ∷ p) = with_character (folded_character x) (λ c. front_sum n (next_sum sum c) p)

-- the sums are of fronts, and differ
abbrev pub AreOfOtherFronts : ℕ → ℕ → Type 0
AreOfOtherFronts sum other = (sum ≢ other) × (sum ≢ 0) × (other ≢ 0)
