use Rattle.policy_compile.proofs.Within.{query-within}
use Rattle.policy_compile.proofs.limits.queries_are_within_limits.Goals as goal

pub returns : goal.returns
returns c = λ p q is. query-within p q is
