use Rattle.std.proofs.Common.{◌≡◌, ◌<◌, ◌≤◌, ℕ, true}
use Rattle.std.specs.Char.{IsScalar}
use Rattle.wildcard_lang.specs.Places.{contains_place}
use Rattle.pattern_automata.proofs.names.free_in.Given as goal

abbrev pub invariant-loop-code : goal.invariant-loop-code
invariant-loop-code l = (d : ℕ) → IsScalar d → l.from ≤ d → d < l.code → contains_place l.set.keys d ≡ true
