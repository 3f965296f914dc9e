use Rattle.set_operators.specs.Steps.{AreMembersUpTo}
use Rattle.set_operators.proofs.search.solve_several.Given as goal

abbrev pub invariant-loop-i : goal.invariant-loop-i
invariant-loop-i l = AreMembersUpTo l.rule l.asks l.i l.values
