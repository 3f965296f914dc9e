-- The search finds this unasked; asked for here, a wrong body is refused without a longer search.
use Rattle.std.proofs.Common.{arith}
use Rattle.std.proofs.lemmas.Grind.{common_steps}
use Rattle.pattern_automata.proofs.meets.clauses_met.Goals as goal

pub loop-clause-preserved : goal.loop-clause-preserved
loop-clause-preserved c = grind (arith, common_steps)
