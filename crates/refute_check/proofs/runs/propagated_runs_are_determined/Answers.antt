use Rattle.refute_check.proofs.Agreeing.{same-propagated}
use Rattle.refute_check.proofs.runs.propagated_runs_are_determined.Goals as goal

pub returns : goal.returns
returns c = λ schema tests tree path first second n m below range. same-propagated schema tests tree below path first second n m range
