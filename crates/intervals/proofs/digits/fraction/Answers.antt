use Rattle.std.proofs.Common.{rules}
use Rattle.intervals.proofs.Numbers.{fraction_below}
use Rattle.intervals.proofs.digits.fraction.Goals as goal

pub returns-clause-small : goal.returns-clause-small
returns-clause-small c = rw c.pow.ensures (fraction_below _ _ c.in_ok-digits.ensures.small c.in_ok-digits.ensures.fits)

pub returns-clause-value : goal.returns-clause-value
returns-clause-value c = search rules
