use Rattle.policy_compile.proofs.Within.{same-limits}
use Rattle.policy_compile.proofs.limits.same_tests_meet_limits_alike.Goals as goal

pub returns : goal.returns
returns c = λ p q same. same-limits p q same
