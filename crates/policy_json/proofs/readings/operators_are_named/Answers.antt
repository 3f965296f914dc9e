use Rattle.policy_json.proofs.OperatorNaming.{operator_of-is}
use Rattle.policy_json.proofs.OperatorRows.{operator_of-text}
use Rattle.policy_json.proofs.readings.operators_are_named.Goals as goal

pub returns : goal.returns
returns c = λ name o. (operator_of-is name o, λ is. operator_of-text name o is.0 is.1)
