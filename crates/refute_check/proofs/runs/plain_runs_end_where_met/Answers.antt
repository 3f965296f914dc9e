use Rattle.std.proofs.Common.{true, false, refl}
use Rattle.refute_check.proofs.Ending.{plain-found, plain-unmet}
use Rattle.refute_check.proofs.runs.plain_runs_end_where_met.Goals as goal

pub returns : goal.returns
returns c = λ schema tests tree path n below range. (
  λ run. plain-found schema tests tree below path true n range run refl,
  λ run. plain-unmet schema tests tree below path false n range run refl,
)
