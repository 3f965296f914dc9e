-- Lists that lie one behind another in one list, with the index at which each ends.
use Rattle.std.specs.Prelude.{◌≡◌, ℕ, zero, suc, ◌-◌, ◌≤◌, List, [], ◌∷◌, take, drop, slice_index_or}

-- the lists that end at these indices, of which the first begins at `from`
abbrev pub cut_at : {X : Type 0} → ℕ → List ℕ → List X → List (List X)
cut_at from [] xs = []
cut_at from (end ∷ ends) xs = take (end - from) (drop from xs) ∷ cut_at end ends xs

-- no index is less than the one before it, or than `from`, and the last of all is n
abbrev pub AreEndsOf : ℕ → List ℕ → ℕ → Type 0
AreEndsOf from [] n = from ≡ n
AreEndsOf from (end ∷ ends) n = (from ≤ end) × AreEndsOf end ends n

-- where the list at an index begins: where the one before it ends
abbrev pub begin_of : ℕ → List ℕ → ℕ → ℕ
begin_of from ends zero = from
begin_of from ends (suc i) = slice_index_or ends i 0
