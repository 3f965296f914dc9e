use Rattle.refute_check.proofs.Agreeing.{shorter}
use Rattle.refute_check.proofs.runs.propagated_runs_are_shorter.Goals as goal

pub returns : goal.returns
returns c = λ schema tests tree path first second n m below range. shorter schema tests tree below path first second n m range
