use Rattle.refute_check.proofs.Failing.{one-verdict}
use Rattle.refute_check.proofs.closing.verdicts_are_equal.Goals as goal

pub returns : goal.returns
returns c = one-verdict
