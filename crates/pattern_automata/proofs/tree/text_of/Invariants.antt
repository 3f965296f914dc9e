use Rattle.std.proofs.Common.{◌<◌, ℕ, List, ◌++◌, length, reverse, All}
use Rattle.std.specs.Char.{IsScalar}
use Rattle.pattern_automata.specs.Tree.{Spells}
use Rattle.pattern_automata.proofs.tree.text_of.Given as goal

abbrev pub invariant-loop-at : goal.invariant-loop-at
invariant-loop-at l =
    (l.at < length l.parents) × All IsScalar l.chars.items × ((t : List ℕ) → Spells l.parents l.at t → Spells l.parents l.i (t ++ reverse l.chars.items))

abbrev pub decreases-loop-at : goal.decreases-loop-at
decreases-loop-at l = l.at
