use Rattle.std.proofs.Common.{[], map, drop}
use Rattle.serde_json.specs.View.{view}
use Rattle.json_shapes.proofs.Laws.{IsRead}
use Rattle.policy_json.specs.Operands.{operand_of, value_checks}
use Rattle.policy_json.proofs.operands.read_operands.Given as goal

abbrev pub invariant-loop-value : goal.invariant-loop-value
invariant-loop-value l =
    IsRead (value_checks l.at.location l.at.key.now l.at.operator.base l.at.escapes) (map (operand_of l.at.operator.base l.at.escapes)) []
    (map view l.values) (map view (drop l.value-index l.values)) l.operands
