use Rattle.strata.proofs.Telling.{order-of}
use Rattle.strata.proofs.stratum.Stratum.is_below.Goals as goal

pub returns : goal.returns
returns c = order-of c.args.self.now c.as_slice.result.now c.args.one c.args.other c.is_told_below.result c.as_slice.ensures c.is_told_below.ensures
