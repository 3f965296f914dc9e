use Rattle.std.proofs.Common.{◌≤◌, drop, length}
use Rattle.tree_values.specs.Leaving.{AreKeptFor, IsLeftOut}
use Rattle.tree_values.proofs.tree_values.TreeValues.leave_out.Given as goal

abbrev pub invariant-answers : goal.invariant-answers
invariant-answers l =
    (l.left ≤ length l.path) × IsLeftOut l.initial.self l.self l.needed l.test l.sides × AreKeptFor l.self l.needed l.test l.sides (drop l.left l.path)

abbrev pub decreases-answers : goal.decreases-answers
decreases-answers l = l.left
