use Rattle.policy_model.specs.Requests.{PermitsValues}
use Rattle.request_json.proofs.Permitting.{permitted, told}
use Rattle.request_json.proofs.keys.are_permitted.Goals as goal

pub returns-clause-value : goal.returns-clause-value
returns-clause-value c =
    told (PermitsValues c.args.rule.now c.args.values.now) _ _ (permitted c.args.rule.now c.args.values.now c.requires) c.permits_values.ensures.0 c.permits_values.ensures.1
