use Rattle.std.proofs.Common.{true, false, refl}
use Rattle.refute_check.proofs.Ending.{propagated-found, propagated-unmet}
use Rattle.refute_check.proofs.runs.propagated_runs_end_where_met.Goals as goal

pub returns : goal.returns
returns c = λ schema tests tree path n below range. (
  λ run. propagated-found schema tests tree below path true n range run refl,
  λ run. propagated-unmet schema tests tree below path false n range run refl,
)
