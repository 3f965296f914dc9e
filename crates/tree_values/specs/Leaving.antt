-- Answers that are left out one by one, as long as a tree stays no.
use Rattle.std.specs.Prelude.{◌≡◌, ◌⊎◌, ◌==◌, ℕ, List, [], ◌∷◌, length, Bool, true, false, Option, Some, None, is_some, if◌then◌else◌}
use Rattle.formula_tree.specs.Answers.{Answers, answer_of}
use Rattle.formula_tree.specs.Trees.{Tree}
use Rattle.tree_values.specs.Models.{Answered, answer_at, answer_in, answered_tree}
use Rattle.formula_tree.specs.Looks.{look_of_tree}
use Rattle.tree_values.specs.declared.cut.Sides.{Sides}
use Rattle.formula_tree.specs.declared.looks.Look.{Look}
use Rattle.formula_tree.specs.declared.looks.Look.TheVariants as seen

-- the answers with one more
abbrev pub with_answer : (ℕ → Option Bool) → ℕ → Bool → ℕ → Option Bool
with_answer answers test b n = if test == n then Some b else answers n

-- the answers without that to a test
abbrev pub without_answer : (ℕ → Option Bool) → ℕ → ℕ → Option Bool
without_answer answers test n = if test == n then None else answers n

-- what is seen of a tree under the answers and one more
abbrev pub seen_given : Tree → (ℕ → Option Bool) → ℕ → Bool → Look
seen_given tree answers test b = look_of_tree (with_answer answers test b) tree

-- the tree is no on each of the wanted sides
pub record IsNoGiven (tree : Tree) (answers : ℕ → Option Bool) (test : ℕ) (sides : Sides) : Type 0 where
  pub yes : sides.yes ≡ true → seen_given tree answers test true ≡ seen.No
  pub no : sides.no ≡ true → seen_given tree answers test false ≡ seen.No

-- some answers were left out, none of the needed ones, and the tree is still no
pub record IsLeftOut (old new : Answered) (needed : Answers) (test : ℕ) (sides : Sides) : Type 0 where
  pub formula : new.formula ≡ old.formula
  pub tests : length new.answers ≡ length old.answers
  pub fewer : (n : ℕ) (b : Bool) → answer_in new n ≡ Some b → answer_in old n ≡ Some b
  pub needed_stay : (n : ℕ) (b : Bool) → answer_of needed n ≡ Some b → answer_in old n ≡ Some b → answer_in new n ≡ Some b
  pub still : IsNoGiven (answered_tree old) (answer_at new.answers) test sides

-- an answer that is still there is needed anyway, or without it the tree isn't no
abbrev pub IsKeptFor : Answered → Answers → ℕ → Sides → ℕ → Type 0
IsKeptFor a needed test sides n = (b : Bool) → answer_in a n ≡ Some b →
    (is_some (answer_of needed n) ≡ true) ⊎ ¬ IsNoGiven (answered_tree a) (without_answer (answer_at a.answers) n) test sides

-- each of the answered tests was tried
abbrev pub AreKeptFor : Answered → Answers → ℕ → Sides → Answers → Type 0
AreKeptFor a needed test sides tried = (n : ℕ) (c : Bool) → answer_of tried n ≡ Some c → IsKeptFor a needed test sides n

-- the answers of a path that are still given
abbrev pub still_answered : List (Option Bool) → Answers → Answers
still_answered answers [] = []
still_answered answers (p ∷ path) = (if is_some (answer_at answers p.0) then p ∷ still_answered answers path else still_answered answers path)
