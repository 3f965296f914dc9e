use Rattle.std.proofs.Common.{[]}
use Rattle.std.specs.List.{flat_map}
use Rattle.serde_json.specs.View.{members_view}
use Rattle.json_shapes.specs.Json.{pairs_of}
use Rattle.policy_json.specs.Principals.{entries_of_kind, kind_checks}
use Rattle.json_shapes.proofs.Laws.{IsRead}
use Rattle.policy_json.proofs.principals.read_kinds.Given as goal

abbrev pub invariant-loop-kind_name : goal.invariant-loop-kind_name
invariant-loop-kind_name l = record {
  can_next : (goal.iterator-loop-kind_name).can_next l.kind_name-iterator;
  is_finite : (goal.iterator-loop-kind_name).is_finite l.kind_name-iterator;
  read : IsRead (kind_checks l.location l.name) (flat_map entries_of_kind) [] (pairs_of (members_view l.kinds.entries)) (pairs_of (members_view l.kind_name-iterator)) l.entries;
}
