use Rattle.std.proofs.Common.{◌<◌, ◌*◌, ℕ, List, All, length, subst, sym, arith}
use Rattle.pattern_automata.proofs.Meeting.{ends-within}
use Rattle.pattern_automata.proofs.search.is_met.Goals as goal

pub clauses_met-requires-clause-within : goal.clauses_met-requires-clause-within
clauses_met-requires-clause-within c =
    subst (λ (x : List ℕ). All (λ e. e < 64 * length c.args.words.now) x) (sym c.as_slice.ensures.value)
    (λ k d h. omega (arith, c.requires.size, ends-within c.args.wants.now.patterns c.args.machine.now.ends.items c.requires.machine.ends k d h))
