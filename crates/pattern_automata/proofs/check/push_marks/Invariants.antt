use Rattle.std.proofs.Common.{◌≡◌, ◌≤◌, ◌++◌, ℕ, true, drop, length}
use Rattle.wildcard_lang.specs.Accepts.{tests}
use Rattle.wildcard_lang.specs.Places.{contains_place}
use Rattle.pattern_automata.specs.Closed.{rises_from}
use Rattle.pattern_automata.proofs.check.push_marks.Given as goal

abbrev pub invariant-loop-j : goal.invariant-loop-j
invariant-loop-j l =
    (l.marks.items ≡ l.fn.marks.items ++ tests (contains_place l.list) 0 l.j)
    × (rises_from l.j (drop l.next l.list) ≡ true)
    × ((x : ℕ) → l.j ≤ x → contains_place l.list x ≡ contains_place (drop l.next l.list) x)
    × (l.next ≤ length l.list)
