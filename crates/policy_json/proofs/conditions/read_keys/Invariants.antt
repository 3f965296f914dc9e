use Rattle.std.proofs.Common.{map}
use Rattle.serde_json.specs.View.{members_view}
use Rattle.json_shapes.specs.Json.{pairs_of}
use Rattle.json_shapes.proofs.Laws.{IsRead}
use Rattle.policy_json.specs.Conditions.{condition_of, key_checks}
use Rattle.policy_json.proofs.conditions.read_keys.Given as goal

abbrev pub invariant-loop-key : goal.invariant-loop-key
invariant-loop-key l = record {
  can_next : (goal.iterator-loop-key).can_next l.key-iterator;
  is_finite : (goal.iterator-loop-key).is_finite l.key-iterator;
  read : IsRead (key_checks l.location l.operator l.escapes) (map (condition_of l.operator l.escapes)) l.fn.conditions (pairs_of (members_view l.keys.entries)) (pairs_of (members_view l.key-iterator)) l.conditions;
}
