use Rattle.std.proofs.Common.{ap, ◌∙◌}
use Rattle.policy_json.specs.OperatorParts.{operator_by_parts}
use Rattle.policy_json.proofs.OperatorRows.{parts_agree}
use Rattle.policy_json.proofs.operator_names.operator_of.Goals as goal

pub returns : goal.returns
returns c = c.operator_by_parts.ensures ∙ ap operator_by_parts c.as_bytes.ensures.value ∙ parts_agree c.args.name.now
