-- Paths without one of their answers.
use Rattle.std.specs.Prelude.{ℕ, ◌==◌, [], ◌∷◌, if◌then◌else◌}
use Rattle.formula_tree.specs.Answers.{Answers}

-- the path without its answer to a test
abbrev pub path_without : Answers → ℕ → Answers
path_without [] n = []
path_without (p ∷ path) n = (if p.0 == n then path_without path n else p ∷ path_without path n)
