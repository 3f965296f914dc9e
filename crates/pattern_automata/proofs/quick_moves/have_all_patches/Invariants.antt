use Rattle.std.proofs.Common.{◌<◌, ℕ, get_or, Vec}
use Rattle.std.specs.declared.alloc.Global.{Global}
use Rattle.pattern_automata.specs.declared.named.Named.{Named}
use Rattle.pattern_automata.specs.Proposals.{HaveTheirPatches}
use Rattle.pattern_automata.proofs.quick_moves.have_all_patches.Given as goal

abbrev pub invariant-loop-index : goal.invariant-loop-index
invariant-loop-index l = (k : ℕ) (d : Vec Named Global) → k < l.index → HaveTheirPatches l.indices l.moves k (get_or l.named k d).items
