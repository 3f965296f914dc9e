use Rattle.std.proofs.Common.{[]}
use Rattle.std.specs.List.{flat_map}
use Rattle.serde_json.specs.View.{members_view}
use Rattle.json_shapes.specs.Json.{pairs_of}
use Rattle.json_shapes.proofs.Laws.{IsRead}
use Rattle.policy_json.specs.Conditions.{conditions_under, operator_checks}
use Rattle.policy_json.proofs.conditions.read_operators.Given as goal

abbrev pub invariant-loop-name : goal.invariant-loop-name
invariant-loop-name l = record {
  can_next : (goal.iterator-loop-name).can_next l.name-iterator;
  is_finite : (goal.iterator-loop-name).is_finite l.name-iterator;
  read : IsRead (operator_checks l.location l.escapes) (flat_map (conditions_under l.escapes)) [] (pairs_of (members_view l.operators.entries)) (pairs_of (members_view l.name-iterator)) l.conditions;
}
