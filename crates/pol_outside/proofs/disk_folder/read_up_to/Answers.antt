use Rattle.std.proofs.Common.{arith}
use Rattle.std.proofs.lemmas.Grind.{common_steps}
use Rattle.pol_outside.proofs.Reading.{Gives-longer}
use Rattle.pol_outside.proofs.disk_folder.read_up_to.Goals as goal

pub returns-clause-given : goal.returns-clause-given
returns-clause-given g c = record {
  given = c.loop-left.invariant.given.0;
  grown = c.loop-left.invariant.given.1;
  gives = Gives-longer _ _ _ _ c.loop-left.invariant.given.3 (omega arith);
}

pub loop-left-preserved : goal.loop-left-preserved
loop-left-preserved g c = grind (arith, common_steps)
