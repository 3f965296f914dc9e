use Rattle.policy_eval.proofs.Telling.{tells-what-is-allowed}
use Rattle.policy_eval.proofs.laws.deciders_tell_what_is_allowed.Goals as goal

pub returns : goal.returns
returns c = λ schema set r d. tells-what-is-allowed schema set r d
