-- Numbers that fall, as the indices of asks of which the last are looked at first.
use Rattle.std.specs.Prelude.{◌<◌, ⊤, ℕ, List, [], ◌∷◌}

-- the first is below n, and each further one below the one before it
abbrev pub FallBelow : ℕ → List ℕ → Type 0
FallBelow n [] = ⊤
FallBelow n (k ∷ ks) = (k < n) × FallBelow k ks
