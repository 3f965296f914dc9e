use Rattle.std.proofs.Common.{◌-◌}
use Rattle.intervals.proofs.Fractions.{power_positive}
use Rattle.intervals.proofs.write.digit_worth.Goals as goal

pub returns-clause-positive : goal.returns-clause-positive
returns-clause-positive c = rw c.pow.ensures (power_positive (8 - c.args.before))
