use Rattle.std.proofs.Common.{◌≡◌, ◌≤◌, ℕ, [], false, get_or, take}
use Rattle.wildcard_lang.specs.Matching.{takes}
use Rattle.wildcard_lang.specs.Accepts.{accepts_by}
use Rattle.wildcard_lang.proofs.places.start.Given as goal

abbrev pub invariant-loop-i : goal.invariant-loop-i
invariant-loop-i l = (k : ℕ) → k ≤ l.i → get_or l.places k false ≡ accepts_by takes (take k l.pieces) []
