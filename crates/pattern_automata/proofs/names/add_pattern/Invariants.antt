use Rattle.std.proofs.Common.{◌≡◌, ◌||◌, ℕ, take}
use Rattle.std.specs.Char.{IsScalar}
use Rattle.wildcard_lang.specs.Places.{contains_place}
use Rattle.pattern_automata.specs.Closed.{names_any}
use Rattle.pattern_automata.proofs.names.add_pattern.Given as goal

abbrev pub invariant-loop-piece : goal.invariant-loop-piece
invariant-loop-piece l = (d : ℕ) → IsScalar d → contains_place l.set.keys d ≡ (contains_place l.fn.set.keys d || names_any (take l.piece-index l.piece-items) d)
