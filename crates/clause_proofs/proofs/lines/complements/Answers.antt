use Rattle.clause_proofs.proofs.Falsifying.{complements-more}
use Rattle.clause_proofs.proofs.lines.complements.Goals as goal

pub literals-preserved : goal.literals-preserved
literals-preserved c = complements-more c.args.literals.now c.literals.clause c.push.new.self c.literals.literal-index _ c.literals-test.true c.literals.invariant c.in_ok-push.ensures.ok
