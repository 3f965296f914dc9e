use Rattle.policy_json.proofs.Naming.{read-stands, stands-read}
use Rattle.policy_json.proofs.readings.accounts_are_read.Goals as goal

pub returns : goal.returns
returns c = λ account id. (read-stands account id, stands-read account id)
