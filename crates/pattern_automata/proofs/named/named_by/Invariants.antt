use Rattle.std.proofs.Common.{◌≡◌, ◌<◌, ℕ, length, get_or, Vec}
use Rattle.std.specs.declared.alloc.Global.{Global}
use Rattle.pattern_automata.specs.declared.named.Named.{Named}
use Rattle.pattern_automata.specs.Named.{HasNamesAt}
use Rattle.pattern_automata.proofs.named.named_by.Given as goal

abbrev pub invariant-loop-index : goal.invariant-loop-index
invariant-loop-index l =
    (length l.named.items ≡ l.index)
    × ((k : ℕ) (d : Vec Named Global) → k < l.index → HasNamesAt l.fronts k (get_or l.named.items k d).items)
