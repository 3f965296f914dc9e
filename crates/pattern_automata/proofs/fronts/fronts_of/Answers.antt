use Rattle.pattern_automata.proofs.Fronting.{fronts-more}
use Rattle.pattern_automata.proofs.fronts.fronts_of.Goals as goal

pub loop-pattern-preserved : goal.loop-pattern-preserved
loop-pattern-preserved c = fronts-more c.args.patterns.now _ _ _ _ c.loop-pattern-test.true c.pattern-item.is c.loop-pattern.invariant c.in_ok-push_fronts.ensures
