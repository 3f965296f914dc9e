use Rattle.reach_answers.specs.ZoneRefusals.{zone_line}
use Rattle.reach_answers.proofs.zone_file.zone_refused.Goals as goal

pub returns : goal.returns
returns c = c.ended.ensures (zone_line c.args.fault.now) c.zone_line.ensures
