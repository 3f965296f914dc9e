use Rattle.std.proofs.Common.{ap, ◌∙◌}
use Rattle.trust_zones.specs.Zones.{with_document}
use Rattle.trust_zones.proofs.Keeping.{keeps-fit}
use Rattle.trust_zones.proofs.outside_set.outside.Goals as goal

pub returns-clause-fits : goal.returns-clause-fits
returns-clause-fits c = keeps-fit c.args.set.now c.args.zone.now c.in_ok-made.made c.requires (c.in_ok-made.ensures ∙ ap (with_document c.args.set.now) c.in_ok-document.ensures)
