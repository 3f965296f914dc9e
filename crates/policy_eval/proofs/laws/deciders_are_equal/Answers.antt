use Rattle.policy_eval.proofs.Unique.{one-decider}
use Rattle.policy_eval.proofs.laws.deciders_are_equal.Goals as goal

pub returns : goal.returns
returns c = λ schema set r one other is also. one-decider schema set r one other is also
