use Rattle.policy_json.proofs.FormsOfSets.{read-form}
use Rattle.policy_json.proofs.readings.read_sets_are_of_forms.Goals as goal

pub returns : goal.returns
returns c = λ bytes set is. read-form bytes set is
