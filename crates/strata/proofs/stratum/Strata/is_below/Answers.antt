use Rattle.std.proofs.Common.{ap, sym, ◌∙◌}
use Rattle.std.specs.Option.{option_copied}
use Rattle.strata.proofs.Telling.{order-in, order-nowhere}
use Rattle.strata.proofs.stratum.Strata.is_below.Goals as goal

pub returns-in-Some : goal.returns-in-Some
returns-in-Some c = order-in c.args.self.now c.args.dimension c.args.one c.args.other c.in-Some.stratum.now c.is_below.result (sym c.get.ensures ∙ ap option_copied c.in-Some.is) c.is_below.ensures

pub returns-in-None : goal.returns-in-None
returns-in-None c = order-nowhere c.args.self.now c.args.dimension c.args.one c.args.other (sym c.get.ensures ∙ ap option_copied c.in-None.is)
